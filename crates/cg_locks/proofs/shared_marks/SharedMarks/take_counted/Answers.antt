use Rattle.std.proofs.Common.{refl, ◌∙◌}
use Rattle.std.proofs.lemmas.Result.{on_ok_weaker, on_err_weaker}
use Rattle.cg_locks.specs.Table.{by_kind}
use Rattle.cg_locks.proofs.CountedMarks.{more_by_these}
use Rattle.cg_locks.proofs.OfKinds.{alike_marked, kinds}
use Rattle.cg_locks.proofs.Tables.{same_table}
use Rattle.cg_locks.proofs.shared_marks.SharedMarks.take_counted.Goals as goal

pub returns-in-Some-clause-ok : goal.returns-in-Some-clause-ok
returns-in-Some-clause-ok c =
    on_ok_weaker c.add_counted.result (λ h. more_by_these c.self.inside.marks c.add_counted.new.self c.self.inside.processes.entries c.args.counted c.in-Some.these c.in-Some.is c.args.transaction.0 h c.args.self.now _ c.self.view_is refl) c.add_counted.ensures.ok

pub returns-in-Some-clause-err : goal.returns-in-Some-clause-err
returns-in-Some-clause-err c =
    let es = c.self.inside.processes.entries in
    on_err_weaker c.add_counted.result (λ h. same_table (by_kind c.add_counted.new.self es) (kinds c.self.inside) (alike_marked c.self.inside.marks c.add_counted.new.self es h) ∙ c.self.view_is) c.add_counted.ensures.err
