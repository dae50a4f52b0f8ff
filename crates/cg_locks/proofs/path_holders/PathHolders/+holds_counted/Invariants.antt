use Rattle.std.proofs.Common.{length}
use Rattle.cg_locks.proofs.path_holders.PathHolders.+holds_counted.Given as goal

abbrev pub decreases-holds_counted : goal.decreases-holds_counted
decreases-holds_counted l = length l.depths.now
