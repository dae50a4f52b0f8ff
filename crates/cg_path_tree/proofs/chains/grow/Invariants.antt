use Rattle.std.proofs.Common.{◌≡◌, ◌<◌, take, length}
use Rattle.cg_path_tree.specs.Chains.{link_in}
use Rattle.cg_path_tree.specs.declared.node.NodeKey.{NodeKey}
use Rattle.cg_path_tree.specs.Linked.{node_in}
use Rattle.cg_path_tree.specs.Chains.{AreChained}
use Rattle.cg_path_tree.proofs.chains.grow.Given as goal

abbrev pub invariant-loop-key : goal.invariant-loop-key
invariant-loop-key g l = record {
  same : (k : NodeKey) → node_in l.nodes k ≡ node_in l.fn.nodes k;
  chained : AreChained (take l.key-index l.order) l.wider.items (link_in l.nodes);
  some : 0 < length l.wider.items;
}
