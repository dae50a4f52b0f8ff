-- The walk has come from the node up to `at`.
use Rattle.std.proofs.Common.{length}
use Rattle.cg_tree.specs.Entries.{path_at, with_below}
use Rattle.cg_tree.proofs.Climbing.{HasClimbed}
use Rattle.cg_tree.proofs.counting.count_above.Given as goal

abbrev pub invariant-loop-above : goal.invariant-loop-above
invariant-loop-above l = HasClimbed (with_below l.comes) l.fn.nodes l.nodes (path_at l.fn.nodes l.fn.key) l.at

abbrev pub decreases-loop-above : goal.decreases-loop-above
decreases-loop-above l = length (path_at l.fn.nodes l.at)
