-- The marks so far are there.
use Rattle.std.proofs.Common.{◌≡◌, Some, take}
use Rattle.cg_maps.specs.FiniteMap.{get}
use Rattle.cg_name.specs.Path.{Path}
use Rattle.cg_locks.proofs.CountedWalks.{HasAdded}
use Rattle.cg_locks.proofs.counted.add.Given as goal

abbrev pub invariant-loop-index : goal.invariant-loop-index
invariant-loop-index l = record {
  keys : l.nodes.keys ≡ l.fn.nodes.keys;
  added : (p : Path) → get l.fn.nodes.keys p ≡ Some l.fn.key → HasAdded l.fn.nodes.keys l.fn.nodes.values l.transaction.0 p (take l.index l.depths) l.at l.nodes.values;
}
