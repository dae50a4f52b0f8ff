use Rattle.std.proofs.Common.{◌≡◌, map, take, drop}
use Rattle.cg_name.specs.Packed.{slashed}
use Rattle.cg_name.proofs.packed.put_slashes.Given as goal

-- what is behind is written, and what is to come as it was
abbrev pub invariant-loop-i : goal.invariant-loop-i
invariant-loop-i l = (take l.i l.bytes ≡ map slashed (take l.i l.fn.bytes)) × (drop l.i l.bytes ≡ drop l.i l.fn.bytes)
