use Rattle.std.proofs.Common.{ap, sym, ◌∙◌}
use Rattle.std.proofs.lemmas.List.{take_all}
use Rattle.cg_history.specs.Meaning.{history_of, record_of}
use Rattle.cg_batch.specs.Outcomes.{outcome_behind, outcome_in}
use Rattle.cg_batch.proofs.Noting.{history_next}
use Rattle.cg_batch.proofs.outcomes.outcomes_of.Goals as goal

-- one record more was noted
pub loop-entry-preserved : goal.loop-entry-preserved
loop-entry-preserved c = λ t.
    let entry = c.entry-item.result in
    c.in_ok-note.ensures t
    ∙ ap (outcome_behind (record_of entry) t) (c.loop-entry.invariant t)
    ∙ sym (ap (λ h. outcome_in h t) (history_next c.args.records.now c.loop-entry.entry-index entry c.loop-entry-test.true c.entry-item.is))

pub returns : goal.returns
returns c = λ t. c.loop-entry.invariant t ∙ ap (λ rs. outcome_in (history_of rs) t) (take_all c.loop-entry.entry-index c.args.records.now c.loop-entry-test.false)
