-- The commands that are still held are let go to where all are.
use Rattle.std.proofs.Common.{drop, reverse}
use Rattle.cg_txn.specs.LettingGo.{IsLetGo, MayLetGo}
use Rattle.cg_txn.proofs.Steps.{IsOnTheWay}
use Rattle.cg_txn.specs.Stack.{commands}
use Rattle.cg_txn.proofs.going_back.commit.Given as goal

abbrev pub invariant-loop-index : goal.invariant-loop-index
invariant-loop-index l =
    IsOnTheWay (λ d f. MayLetGo l.number.0 f) (λ d f. IsLetGo l.number.0 f) (reverse l.fn.txn.items) l.fn.tree l.fn.locks (commands (drop l.index (reverse l.fn.txn.items))) l.tree l.locks
