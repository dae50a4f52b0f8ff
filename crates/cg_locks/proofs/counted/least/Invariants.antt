-- With the least of those left, what was found is the least.
use Rattle.std.proofs.Common.{◌≡◌, Some, drop, option_map}
use Rattle.cg_maps.specs.FiniteMap.{get}
use Rattle.cg_name.specs.Path.{Path}
use Rattle.cg_locks.specs.Holders.{number_of}
use Rattle.cg_locks.proofs.CountedWalks.{HasFound}
use Rattle.cg_locks.proofs.counted.least.Given as goal

abbrev pub invariant-loop-depth : goal.invariant-loop-depth
invariant-loop-depth l = (p : Path) → get l.nodes.keys p ≡ Some l.fn.key → HasFound l.nodes.keys l.nodes.values l.transaction.0 p l.depths (drop l.depth-index l.depths) l.at (option_map number_of l.least)
