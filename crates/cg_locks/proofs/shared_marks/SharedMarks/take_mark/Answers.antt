-- The marks of its kind are held once more.
use Rattle.std.proofs.Common.{refl, ap, ◌∙◌}
use Rattle.std.proofs.lemmas.Result.{on_ok_weaker, on_err_weaker}
use Rattle.cg_locks.specs.declared.held.Kind.TheVariants as kinds_of
use Rattle.cg_model.specs.Footprint.{X, S, N, Pid}
use Rattle.cg_locks.specs.Meaning.{mark_of}
use Rattle.cg_locks.specs.Table.{by_kind}
use Rattle.cg_locks.proofs.OfKinds.{alike_marked, alike_processes, kinds, more_for, more_marked, more_processes}
use Rattle.cg_locks.proofs.Results.{after_err}
use Rattle.cg_locks.proofs.Tables.{same_table}
use Rattle.cg_locks.proofs.shared_marks.SharedMarks.take_mark.Goals as goal

pub returns-in-Changed-clause-ok : goal.returns-in-Changed-clause-ok
returns-in-Changed-clause-ok c =
    let K = kinds c.self.inside in
    let es = c.self.inside.processes.entries in
    on_ok_weaker c.add.result (λ h. more_for K (by_kind c.add.new.self es) c.args.self.now _ c.args.transaction.0 c.args.mark.now (X c.in-Changed.path) (ap mark_of c.in-Changed.is) c.self.view_is refl
    (more_marked c.self.inside.marks c.add.new.self es kinds_of.Changed c.in-Changed.path c.args.transaction.0 h)) c.add.ensures.ok

pub returns-in-Changed-clause-err : goal.returns-in-Changed-clause-err
returns-in-Changed-clause-err c =
    let es = c.self.inside.processes.entries in
    on_err_weaker c.add.result (λ h. same_table (by_kind c.add.new.self es) (kinds c.self.inside) (alike_marked c.self.inside.marks c.add.new.self es h) ∙ c.self.view_is) c.add.ensures.err

pub returns-in-Read-clause-ok : goal.returns-in-Read-clause-ok
returns-in-Read-clause-ok c =
    let K = kinds c.self.inside in
    let es = c.self.inside.processes.entries in
    on_ok_weaker c.add-in-Read.result (λ h. more_for K (by_kind c.add-in-Read.new.self es) c.args.self.now _ c.args.transaction.0 c.args.mark.now (S c.in-Read.path) (ap mark_of c.in-Read.is) c.self.view_is refl
    (more_marked c.self.inside.marks c.add-in-Read.new.self es kinds_of.Read c.in-Read.path c.args.transaction.0 h)) c.add-in-Read.ensures.ok

pub returns-in-Read-clause-err : goal.returns-in-Read-clause-err
returns-in-Read-clause-err c =
    let es = c.self.inside.processes.entries in
    on_err_weaker c.add-in-Read.result (λ h. same_table (by_kind c.add-in-Read.new.self es) (kinds c.self.inside) (alike_marked c.self.inside.marks c.add-in-Read.new.self es h) ∙ c.self.view_is) c.add-in-Read.ensures.err

pub returns-in-Stays-clause-ok : goal.returns-in-Stays-clause-ok
returns-in-Stays-clause-ok c =
    let K = kinds c.self.inside in
    let es = c.self.inside.processes.entries in
    on_ok_weaker c.add-in-Stays.result (λ h. more_for K (by_kind c.add-in-Stays.new.self es) c.args.self.now _ c.args.transaction.0 c.args.mark.now (N c.in-Stays.path) (ap mark_of c.in-Stays.is) c.self.view_is refl
    (more_marked c.self.inside.marks c.add-in-Stays.new.self es kinds_of.Stays c.in-Stays.path c.args.transaction.0 h)) c.add-in-Stays.ensures.ok

pub returns-in-Stays-clause-err : goal.returns-in-Stays-clause-err
returns-in-Stays-clause-err c =
    let es = c.self.inside.processes.entries in
    on_err_weaker c.add-in-Stays.result (λ h. same_table (by_kind c.add-in-Stays.new.self es) (kinds c.self.inside) (alike_marked c.self.inside.marks c.add-in-Stays.new.self es h) ∙ c.self.view_is) c.add-in-Stays.ensures.err

pub returns-in_ok-add-in-Process-clause-ok : goal.returns-in_ok-add-in-Process-clause-ok
returns-in_ok-add-in-Process-clause-ok c =
    let K = kinds c.self.inside in
    more_for K (by_kind c.self.inside.marks c.add-in-Process.new.holders.entries) c.args.self.now _ c.args.transaction.0 c.args.mark.now (Pid c.in-Process.pid) (ap mark_of c.in-Process.is) c.self.view_is refl
    (more_processes c.self.inside.marks c.self.inside.processes.entries c.add-in-Process.new.holders.entries c.in-Process.pid c.args.transaction.0 c.in_ok-add-in-Process.ensures.ok)

pub returns-in_err-add-in-Process-clause-err : goal.returns-in_err-add-in-Process-clause-err
returns-in_err-add-in-Process-clause-err c =
    after_err c.from_residual.result (same_table (by_kind c.self.inside.marks c.add-in-Process.new.holders.entries) (kinds c.self.inside) (alike_processes c.self.inside.marks c.self.inside.processes.entries c.add-in-Process.new.holders.entries c.in_err-add-in-Process.ensures.err) ∙ c.self.view_is)
