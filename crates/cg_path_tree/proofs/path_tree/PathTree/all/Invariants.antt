-- The values of the nodes so far pass.
use Rattle.std.proofs.Common.{◌≡◌, ◌<◌, ℕ, true, Some}
use Rattle.std.specs.Fn.{FnReturnsAt}
use Rattle.std.specs.List.{slice_get}
use Rattle.cg_path_tree.specs.declared.node.NodeKey.{NodeKey}
use Rattle.cg_path_tree.specs.Linked.{NodeView, node_in}
use Rattle.cg_path_tree.proofs.path_tree.PathTree.all.Given as goal

abbrev pub invariant-loop-key : goal.invariant-loop-key
invariant-loop-key g l = (j : ℕ) (k : NodeKey) (n : NodeView _) → j < l.key-index → slice_get l.self-inside.order.items j ≡ Some k → node_in l.self-inside.nodes k ≡ Some n → FnReturnsAt g.F.Fn l.test n.value true
