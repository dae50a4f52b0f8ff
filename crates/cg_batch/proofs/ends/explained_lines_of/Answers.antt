use Rattle.std.proofs.Common.{◌+◌, ap, arith, ◌∙◌}
use Rattle.std.proofs.lemmas.List.{take_all}
use Rattle.std.specs.BTreeMap.{get}
use Rattle.std.specs.Ordering.{nat_cmp}
use Rattle.cg_history.specs.Meaning.{history_of}
use Rattle.cg_batch.specs.Ends.{explained_line, lines_by}
use Rattle.cg_batch.specs.Outcomes.{outcome_in}
use Rattle.cg_batch.proofs.BatchLemmas.{lines_alike, lines_step}
use Rattle.cg_batch.proofs.ends.explained_lines_of.Goals as goal

pub loop-end-preserved : goal.loop-end-preserved
loop-end-preserved c = (
  ap (λ n. n + 1) c.loop-end.invariant.0,
  lines_step (explained_line (get nat_cmp c.in_ok-outcomes.outcomes)) c.args.ends.now c.loop-end.end-index c.loop-end.number _ c.loop-end.text.items _ (omega arith) c.loop-end.invariant.0 c.loop-end.invariant.1 c.in_ok-append_explained.ensures,
)

-- all ends were told, by the outcomes that the history has
pub returns : goal.returns
returns c =
    c.loop-end.invariant.1
    ∙ ap (λ es. lines_by (explained_line (get nat_cmp c.in_ok-outcomes.outcomes)) 1 es) (take_all c.loop-end.end-index c.args.ends.now c.loop-end-test.false)
    ∙ lines_alike (get nat_cmp c.in_ok-outcomes.outcomes) (outcome_in (history_of c.args.records.now)) c.in_ok-outcomes.ensures c.args.ends.now
