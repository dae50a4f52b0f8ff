use Rattle.std.proofs.Common.{Contains, length}
use Rattle.cg_world.specs.declared.soundness.Found.{Found}
use Rattle.cg_world.proofs.soundness.Found.last_above.Given as goal

abbrev pub invariant-loop-last : goal.invariant-loop-last
invariant-loop-last l = (g : Found) → Contains l.above.items g → Contains l.fn.above.items g

abbrev pub decreases-loop-last : goal.decreases-loop-last
decreases-loop-last l = length l.above.items
