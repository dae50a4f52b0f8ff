use Rattle.std.proofs.Common.{◌≡◌, ◌≤◌, ◌+◌, ◌*◌, ◌++◌, take, vec_capacity, vec_len}
use Rattle.std.specs.List.{flat_map}
use Rattle.cg_name.specs.Word.{quoted_byte}
use Rattle.cg_name.proofs.word.push_escaped.Given as goal

-- the bytes so far stand behind what was there, with room for the others
abbrev pub invariant-loop-byte : goal.invariant-loop-byte
invariant-loop-byte l = record {
  items : l.out.items ≡ l.initial.out.items ++ flat_map quoted_byte (take l.byte-index l.rest);
  room : vec_len l.out ≤ vec_len l.initial.out + 2 * l.byte-index;
  capacity : vec_capacity l.out ≡ vec_capacity l.fn.out;
}
