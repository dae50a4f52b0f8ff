use Rattle.std.proofs.Common.{length}
use Rattle.cg_locks.proofs.clashing.+is_counted.Given as goal

abbrev pub decreases-is_counted : goal.decreases-is_counted
decreases-is_counted l = length l.depths.now
