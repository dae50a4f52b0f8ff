-- What was taken before the error is released again.
use Rattle.std.proofs.Common.{map, sym, ap, ◌∙◌}
use Rattle.std.proofs.lemmas.Result.{on_err_weaker}
use Rattle.cg_locks.specs.Holdings.{holdings}
use Rattle.cg_locks.specs.Meaning.{mark_of}
use Rattle.cg_locks.proofs.Enough.{undone}
use Rattle.cg_locks.proofs.Tables.{same_neat}
use Rattle.cg_locks.proofs.table.LockTable.take_several.Goals as goal

pub returns-then-is_err-clause-err : goal.returns-then-is_err-clause-err
returns-then-is_err-clause-err c =
    on_err_weaker c.take_counted-taken.result (λ same. same_neat c.release_all.new.self c.args.self.now c.tell-then-is_err.ensures c.tell.ensures
    (undone c.args.self.now c.take_all.new.self c.release_all.new.self c.args.transaction.0 (map mark_of c.parts.result.0.now) c.in_ok-taken_at.ensures.ok
    (λ u m. sym (c.release_all.ensures u m ∙ ap (λ H. holdings H u m) same)))) c.take_counted-taken.ensures.err
