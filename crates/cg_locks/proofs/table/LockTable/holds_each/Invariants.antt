-- The marks so far are held: all are, where those that are left are.
use Rattle.std.proofs.Common.{map}
use Rattle.cg_locks.specs.Meaning.{mark_of}
use Rattle.cg_locks.proofs.Enough.{RestIsEnough}
use Rattle.cg_locks.proofs.table.LockTable.holds_each.Given as goal

abbrev pub invariant-loop-mark : goal.invariant-loop-mark
invariant-loop-mark l = RestIsEnough l.self l.transaction.0 (map mark_of l.marks) l.marks l.mark-index
