use Rattle.std.proofs.Common.{length}
use Rattle.cg_path_tree.specs.Nodes.{path_of}
use Rattle.cg_locks.proofs.upward.+drop_free.Given as goal

abbrev pub decreases-drop_free : goal.decreases-drop_free
decreases-drop_free l = length (path_of l.nodes.now.keys l.key)
