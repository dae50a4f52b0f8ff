use Rattle.std.proofs.Common.{◌==◌, Some, cond, ap, sym, ◌∙◌}
use Rattle.std.specs.BTreeMap.{get}
use Rattle.std.specs.Cmp.{unsigned_tied}
use Rattle.std.specs.Ordering.{nat_cmp}
use Rattle.cg_batch.specs.Outcomes.{or_else}
use Rattle.cg_batch.proofs.Noting.{none_noted}
use Rattle.cg_batch.proofs.outcomes.note.Goals as goal

pub returns-in_ok-insert : goal.returns-in_ok-insert
returns-in_ok-insert c = λ t.
    let key = c.args.entry.now.txn.0 in
    let before = get nat_cmp c.args.outcomes.now t in
    c.in_ok-insert.ensures.updates.0 t
    ∙ ap (λ b. cond b (Some c.in-Some.outcome) before) (unsigned_tied key t)
    ∙ ap (λ o. cond (key == t) (or_else o before) before) (sym c.in-Some.is ∙ c.outcome_by.ensures)

pub returns-in_default : goal.returns-in_default
returns-in_default c = λ t.
    let key = c.args.entry.now.txn.0 in
    let before = get nat_cmp c.args.outcomes.now t in
    none_noted (key == t) before ∙ ap (λ o. cond (key == t) (or_else o before) before) (sym c.in_default.is ∙ c.outcome_by.ensures)
