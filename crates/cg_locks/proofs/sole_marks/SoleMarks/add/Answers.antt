-- Marks of which none is held may be the transaction's from now on.
use Rattle.std.proofs.Common.{◌≡◌, Option, None, Some, refl, ap, ◌∙◌}
use Rattle.std.proofs.lemmas.Option.{IfSome_then}
use Rattle.std.proofs.lemmas.Result.{IfOk-weaker, on_err_weaker}
use Rattle.std.specs.Option.{IfNone, IfSome}
use Rattle.cg_locks.specs.Meaning.{mark_of}
use Rattle.cg_locks.specs.Single.{IsHeldOnceMore}
use Rattle.cg_locks.specs.Sole.{sole_table, IsOnceMore}
use Rattle.cg_locks.proofs.Results.{after_err}
use Rattle.cg_locks.proofs.Soles.{more_sole, same_table_of}
use Rattle.cg_locks.proofs.sole_marks.SoleMarks.add.Goals as goal
use Rattle.cg_locks.proofs.sole_marks.SoleMarks.add.Goals.{Else-is_of_another}

if_none : {A P Q : Type 0} (o : Option A) → (P → Q) → IfNone o P → IfNone o Q
if_none None then h = then h
if_none (Some x) then h = tt

same : (c : Else-is_of_another) → sole_table c.args.transaction.0 c.self.inside.marks.items ≡ c.args.self.now
same c =
    same_table_of c.self.inside.holder c.args.transaction.0 c.self.inside.marks.items c.args.self.now c.self.view_is (c.is_of_another.ensures.own c.if-is_of_another.false)

pub returns-in_err-make_slots-clause-err : goal.returns-in_err-make_slots-clause-err
returns-in_err-make_slots-clause-err c = after_err c.from_residual.result (same (goal.at.returns-in_err-make_slots-clause-err c).Else-is_of_another)

pub returns-clause-added : goal.returns-clause-added
returns-clause-added c =
    let t = c.args.transaction.0 in
    let m = mark_of c.args.mark.now in
    let es = c.self.inside.marks.items in
    let fs = c.put.new.marks.items in
    IfOk-weaker c.put.result (λ place. IfSome place (λ _. IsOnceMore es m fs)) (λ place. IfSome place (λ _. IsHeldOnceMore c.args.self.now t m (sole_table t fs)))
    (λ place more. IfSome_then place more (λ _ one. more_sole t t es fs m c.args.self.now (sole_table t fs) refl (same (goal.at.returns-clause-added c).Else-is_of_another) refl one)) c.put.ensures.added

pub returns-clause-left : goal.returns-clause-left
returns-clause-left c =
    let t = c.args.transaction.0 in
    let es = c.self.inside.marks.items in
    let fs = c.put.new.marks.items in
    IfOk-weaker c.put.result (λ place. IfNone place (fs ≡ es)) (λ place. IfNone place (sole_table t fs ≡ c.args.self.now))
    (λ place left. if_none place (λ e. ap (sole_table t) e ∙ same (goal.at.returns-clause-left c).Else-is_of_another) left) c.put.ensures.left

pub returns-clause-err : goal.returns-clause-err
returns-clause-err c =
    on_err_weaker c.put.result (λ e. ap (sole_table c.args.transaction.0) e ∙ same (goal.at.returns-clause-err c).Else-is_of_another) c.put.ensures.err
