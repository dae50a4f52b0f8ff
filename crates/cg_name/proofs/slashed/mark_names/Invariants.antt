use Rattle.std.proofs.Common.{◌≡◌, map, take, drop}
use Rattle.cg_name.specs.Pieces.{marked}
use Rattle.cg_name.proofs.slashed.mark_names.Given as goal

-- what is behind is marked, and what is to come as it was
abbrev pub invariant-loop-i : goal.invariant-loop-i
invariant-loop-i l = (take l.i l.bytes ≡ map marked (take l.i l.fn.bytes)) × (drop l.i l.bytes ≡ drop l.i l.fn.bytes)
