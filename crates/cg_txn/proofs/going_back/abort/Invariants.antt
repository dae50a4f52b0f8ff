-- The commands that still stand come off to where all do.
use Rattle.std.proofs.Common.{length}
use Rattle.cg_txn.specs.TakingOff.{ComesOff, MayComeOff}
use Rattle.cg_txn.proofs.Steps.{IsOnTheWay}
use Rattle.cg_txn.specs.Stack.{commands}
use Rattle.cg_txn.proofs.going_back.abort.Given as goal

abbrev pub invariant-loop-entry : goal.invariant-loop-entry
invariant-loop-entry l = IsOnTheWay (MayComeOff l.number.0) (ComesOff l.number.0) l.fn.txn.items l.fn.tree l.fn.locks (commands l.txn.items) l.tree l.locks

abbrev pub decreases-loop-entry : goal.decreases-loop-entry
decreases-loop-entry l = length (commands l.txn.items)
