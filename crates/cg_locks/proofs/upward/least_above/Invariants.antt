-- With the least from the node on that the walk has come to, what was found is the least.
use Rattle.std.proofs.Common.{◌≡◌, Some, option_map, length}
use Rattle.cg_maps.specs.FiniteMap.{get}
use Rattle.cg_name.specs.Path.{Path}
use Rattle.cg_path_tree.specs.Nodes.{path_of}
use Rattle.cg_locks.specs.Held.{above_of}
use Rattle.cg_locks.specs.Holders.{number_of}
use Rattle.cg_locks.proofs.Climbing.{HasPassed}
use Rattle.cg_locks.proofs.upward.least_above.Given as goal

abbrev pub invariant-up : goal.invariant-up
invariant-up l = (p : Path) → get l.nodes.keys p ≡ Some l.fn.key → HasPassed l.nodes.keys (above_of l.kind) l.nodes.values l.transaction.0 p l.at (option_map number_of l.least)

abbrev pub decreases-up : goal.decreases-up
decreases-up l = length (path_of l.nodes.keys l.at)
