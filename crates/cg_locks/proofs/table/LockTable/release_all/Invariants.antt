-- What is held, and the marks so far, are what was held.
use Rattle.std.proofs.Common.{map, take}
use Rattle.cg_locks.specs.Meaning.{mark_of}
use Rattle.cg_locks.proofs.Enough.{IsMoreBy}
use Rattle.cg_locks.proofs.table.LockTable.release_all.Given as goal

abbrev pub invariant-loop-mark : goal.invariant-loop-mark
invariant-loop-mark l = IsMoreBy l.self l.transaction.0 (map mark_of (take l.mark-index l.marks)) l.fn.self
