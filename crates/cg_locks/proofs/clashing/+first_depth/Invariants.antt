use Rattle.std.proofs.Common.{length}
use Rattle.cg_locks.proofs.clashing.+first_depth.Given as goal

abbrev pub decreases-first_depth : goal.decreases-first_depth
decreases-first_depth l = length l.depths.now
