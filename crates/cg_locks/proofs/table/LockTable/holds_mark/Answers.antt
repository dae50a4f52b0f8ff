use Rattle.std.proofs.Common.{map}
use Rattle.cg_locks.specs.Meaning.{mark_of}
use Rattle.cg_locks.proofs.Enough.{compared_at}
use Rattle.cg_locks.proofs.table.LockTable.holds_mark.Goals as goal

pub returns : goal.returns
returns c = compared_at c.args.self.now c.args.transaction.0 (map mark_of c.args.marks.now) (mark_of c.args.mark.now) c.times_in.result c.count.result c.times_in.ensures c.count.ensures
