use Rattle.std.proofs.Common.{◌≡◌, take}
use Rattle.cg_path_tree.specs.Listing.{texts_of, keys_in, AreTexts}
use Rattle.cg_path_tree.proofs.path_tree.PathTree.sort.Given as goal

abbrev pub invariant-loop-node : goal.invariant-loop-node
invariant-loop-node g l = record {
  texts : AreTexts l.self.keys (texts_of l.found.items);
  keys : keys_in (texts_of l.found.items) ≡ take l.node-index l.nodes;
}
