-- With those left taken away, all are.
use Rattle.std.proofs.Common.{◌≡◌, Some, drop}
use Rattle.cg_maps.specs.FiniteMap.{get}
use Rattle.cg_name.specs.Path.{Path}
use Rattle.cg_locks.proofs.CountedWalks.{HasTaken}
use Rattle.cg_locks.proofs.counted.remove.Given as goal

abbrev pub invariant-loop-depth : goal.invariant-loop-depth
invariant-loop-depth l = record {
  keys : l.nodes.keys ≡ l.fn.nodes.keys;
  taken : (p : Path) → get l.fn.nodes.keys p ≡ Some l.fn.key → HasTaken l.fn.nodes.keys l.fn.nodes.values l.transaction.0 p l.depths (drop l.depth-index l.depths) l.at l.nodes.values;
}
