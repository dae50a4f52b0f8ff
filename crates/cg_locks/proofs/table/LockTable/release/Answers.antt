-- What a footprint of one mark says is what its mark says.
use Rattle.std.proofs.Common.{sym}
use Rattle.cg_locks.specs.Meaning.{mark_of}
use Rattle.cg_locks.proofs.Enough.{one_is_held}
use Rattle.cg_locks.proofs.table.LockTable.release.Goals as goal

pub release_mark-requires : goal.release_mark-requires
release_mark-requires c = one_is_held c.args.self.now c.args.transaction.0 c.args.footprint.now (mark_of c.in-Some.mark.now) c.in-Some.ensures c.requires
