use Rattle.std.proofs.Common.{◌≡◌, ◌≤◌, ◌+◌, ◌*◌, ◌++◌, length, vec_capacity, vec_len}
use Rattle.std.specs.List.{flat_map}
use Rattle.cg_name.specs.Word.{quoted_byte}
use Rattle.cg_name.proofs.word.push_blocks.Given as goal

-- what is left stands behind what was appended, with room for it
abbrev pub invariant-loop-block : goal.invariant-loop-block
invariant-loop-block g l = record {
  items : l.out.items ++ flat_map quoted_byte l.rest ≡ l.fn.out.items ++ flat_map quoted_byte l.text;
  room : vec_len l.out + 2 * length l.rest ≤ vec_len l.fn.out + 2 * length l.text;
  capacity : vec_capacity l.out ≡ vec_capacity l.fn.out;
}

abbrev pub decreases-loop-block : goal.decreases-loop-block
decreases-loop-block g l = length l.rest
