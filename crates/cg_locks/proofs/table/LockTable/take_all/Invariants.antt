-- What was held, and the marks so far, are what is held.
use Rattle.std.proofs.Common.{map, take}
use Rattle.cg_locks.specs.Meaning.{mark_of}
use Rattle.cg_locks.proofs.Enough.{IsMoreBy}
use Rattle.cg_locks.proofs.table.LockTable.take_all.Given as goal

abbrev pub invariant-loop-index : goal.invariant-loop-index
invariant-loop-index l = IsMoreBy l.fn.self l.transaction.0 (map mark_of (take l.index l.marks)) l.self
