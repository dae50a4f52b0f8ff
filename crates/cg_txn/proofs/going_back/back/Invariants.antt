-- The savepoint is still there, and the commands that still stand above it come off to where all do.
use Rattle.std.proofs.Common.{◌≡◌, ◌+◌, true, length}
use Rattle.cg_txn.specs.TakingOff.{ComesOff, MayComeOff}
use Rattle.cg_txn.proofs.Steps.{IsOnTheWay}
use Rattle.cg_txn.specs.Laws.{below, commands_above}
use Rattle.cg_txn.specs.Stack.{has_savepoint}
use Rattle.cg_txn.proofs.going_back.back.Given as goal

abbrev pub invariant-loop-entry : goal.invariant-loop-entry
invariant-loop-entry l = record {
  way : IsOnTheWay (MayComeOff l.number.0) (ComesOff l.number.0) (commands_above l.name l.fn.txn.items) l.fn.tree l.fn.locks (commands_above l.name l.txn.items) l.tree l.locks;
  transaction : l.txn.number ≡ l.fn.txn.number;
  same_below : below l.name l.txn.items ≡ below l.name l.fn.txn.items;
  still_there : has_savepoint l.name l.txn.items ≡ true;
  counted : l.count + length (commands_above l.name l.txn.items) ≡ length (commands_above l.name l.fn.txn.items);
}

abbrev pub decreases-loop-entry : goal.decreases-loop-entry
decreases-loop-entry l = length (commands_above l.name l.txn.items)
