use Rattle.std.proofs.Common.{◌≡◌, ◌++◌, take, drop}
use Rattle.cg_name.specs.Packed.{first_name}
use Rattle.cg_name.proofs.packed.first_name.Given as goal

abbrev pub invariant-loop-i : goal.invariant-loop-i
invariant-loop-i l = first_name l.bytes ≡ take l.i l.bytes ++ first_name (drop l.i l.bytes)
