-- The walk has come from the node up to `at`.
use Rattle.std.proofs.Common.{length}
use Rattle.cg_tree.specs.Entries.{path_at}
use Rattle.cg_tree.proofs.Carrying.{HasCome}
use Rattle.cg_tree.proofs.counting.count_process.Given as goal

abbrev pub invariant-up : goal.invariant-up
invariant-up l = HasCome l.comes l.fn.nodes l.nodes (path_at l.fn.nodes l.fn.key) l.at

abbrev pub decreases-up : goal.decreases-up
decreases-up l = length (path_at l.fn.nodes l.at)
