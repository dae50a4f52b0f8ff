-- With one more from the node on that the walk has come to, there is one more; and what was added so far can be taken back.
use Rattle.std.proofs.Common.{◌≡◌, Some, length}
use Rattle.cg_maps.specs.FiniteMap.{get}
use Rattle.cg_name.specs.Path.{Path}
use Rattle.cg_path_tree.specs.Nodes.{path_of}
use Rattle.cg_locks.proofs.Unwinding.{HasMore}
use Rattle.cg_locks.proofs.upward.add_up.Given as goal

abbrev pub invariant-up : goal.invariant-up
invariant-up l = record {
  keys : l.nodes.keys ≡ l.fn.nodes.keys;
  more : (p : Path) → get l.fn.nodes.keys p ≡ Some l.fn.key → HasMore l.fn.nodes.keys l.fn.nodes.values l.part l.transaction.0 p l.at l.nodes.values;
}

abbrev pub decreases-up : goal.decreases-up
decreases-up l = length (path_of l.fn.nodes.keys l.at)
