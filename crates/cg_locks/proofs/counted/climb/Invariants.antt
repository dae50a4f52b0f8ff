-- The node that the walk has come to is on the way.
use Rattle.std.proofs.Common.{◌≡◌, Some, length}
use Rattle.cg_maps.specs.FiniteMap.{get}
use Rattle.cg_name.specs.Path.{Path}
use Rattle.cg_path_tree.specs.Nodes.{path_of}
use Rattle.cg_locks.proofs.CountedWalks.{IsOnWay}
use Rattle.cg_locks.proofs.counted.climb.Given as goal

abbrev pub invariant-up : goal.invariant-up
invariant-up l = (p : Path) → get l.nodes.keys p ≡ Some l.fn.key → IsOnWay l.nodes.keys l.depth p l.at

abbrev pub decreases-up : goal.decreases-up
decreases-up l = length (path_of l.nodes.keys l.at)
