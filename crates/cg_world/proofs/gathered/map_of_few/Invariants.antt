use Rattle.std.proofs.Common.{length}
use Rattle.cg_world.proofs.Taken.{IsTaken}
use Rattle.cg_world.proofs.gathered.map_of_few.Given as goal

abbrev pub invariant-loop-key : goal.invariant-loop-key
invariant-loop-key g l = IsTaken g.K.Ord.cmp l.fn.run.items l.run.items l.map

abbrev pub decreases-loop-key : goal.decreases-loop-key
decreases-loop-key g l = length l.run.items
