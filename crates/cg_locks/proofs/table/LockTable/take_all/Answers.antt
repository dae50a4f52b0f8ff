-- What was taken before the error is released again.
use Rattle.std.proofs.Common.{map, sym, take, ap, ◌∙◌}
use Rattle.cg_locks.specs.Holdings.{holdings}
use Rattle.cg_locks.specs.Meaning.{mark_of}
use Rattle.cg_locks.proofs.Enough.{undone}
use Rattle.cg_locks.proofs.Tables.{same_neat}
use Rattle.cg_locks.proofs.table.LockTable.take_all.Goals as goal

pub returns-in-Err-clause-err : goal.returns-in-Err-clause-err
returns-in-Err-clause-err c =
    same_neat c.release_all.new.self c.args.self.now c.tell-in-Err.ensures c.tell.ensures
    (undone c.args.self.now c.loop-index.self c.release_all.new.self c.args.transaction.0 (map mark_of (take c.loop-index.index c.args.marks.now)) c.loop-index.invariant
    (λ u m. sym (c.release_all.ensures u m ∙ ap (λ H. holdings H u m) c.in-Err.ensures.err)))
