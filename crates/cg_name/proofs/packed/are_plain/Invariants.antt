use Rattle.std.proofs.Common.{◌≡◌, cond, take}
use Rattle.std.specs.List.{list_all}
use Rattle.cg_name.specs.Packed.{is_plain_or_zero}
use Rattle.cg_name.proofs.packed.are_plain.Given as goal

abbrev pub invariant-loop-byte : goal.invariant-loop-byte
invariant-loop-byte l = l.others ≡ cond (list_all is_plain_or_zero (take l.byte-index l.bytes)) 0 1
