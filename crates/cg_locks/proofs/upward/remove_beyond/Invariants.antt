-- With one less from the node on that the walk has come to, there is one less.
use Rattle.std.proofs.Common.{◌≡◌, Some, length}
use Rattle.cg_maps.specs.FiniteMap.{get}
use Rattle.cg_name.specs.Path.{Path}
use Rattle.cg_path_tree.specs.Nodes.{path_of}
use Rattle.cg_locks.proofs.Unwinding.{HasBack}
use Rattle.cg_locks.proofs.upward.remove_beyond.Given as goal

abbrev pub invariant-up : goal.invariant-up
invariant-up l = record {
  keys : l.nodes.keys ≡ l.fn.nodes.keys;
  back : (p : Path) → get l.fn.nodes.keys p ≡ Some l.fn.key → HasBack l.fn.nodes.keys l.fn.nodes.values l.part l.depth l.transaction.0 p l.at l.nodes.values;
}

abbrev pub decreases-up : goal.decreases-up
decreases-up l = length (path_of l.fn.nodes.keys l.at)
