-- The least so far is that of the marks so far.
use Rattle.std.proofs.Common.{option_map}
use Rattle.cg_locks.specs.Holders.{number_of}
use Rattle.cg_locks.proofs.Ways.{IsLeastSoFar}
use Rattle.cg_locks.proofs.table.LockTable.clash_with_all.Given as goal

abbrev pub invariant-loop-mark : goal.invariant-loop-mark
invariant-loop-mark l = IsLeastSoFar l.self l.transaction.0 l.marks l.mark-index (option_map number_of l.least)
