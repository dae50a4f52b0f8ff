use Rattle.std.proofs.Common.{length}
use Rattle.cg_locks.proofs.path_holders.PathHolders.+least_looked_up.Given as goal

abbrev pub decreases-least_looked_up : goal.decreases-least_looked_up
decreases-least_looked_up l = length l.depths.now
