-- No item so far is in the way.
use Rattle.std.proofs.Common.{◌≡◌, drop}
use Rattle.cg_txn.proofs.ClashingItems.{first_in}
use Rattle.cg_txn.proofs.txn.Txn.clashing.Given as goal

abbrev pub invariant-loop-index : goal.invariant-loop-index
invariant-loop-index l = first_in l.fn.footprint (drop l.index l.items.items) ≡ first_in l.fn.footprint l.items.items
