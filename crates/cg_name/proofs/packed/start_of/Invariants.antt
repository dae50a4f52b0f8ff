use Rattle.std.proofs.Common.{◌≡◌, ◌+◌, take}
use Rattle.std.specs.List.{count_by}
use Rattle.cg_name.proofs.Packing.{is_zero}
use Rattle.cg_name.proofs.packed.start_of.Given as goal

abbrev pub invariant-loop-i : goal.invariant-loop-i
invariant-loop-i l = l.left + count_by is_zero (take l.i l.bytes) ≡ l.index
