-- What comes next is appended.
use Rattle.std.proofs.Common.{◌∙◌}
use Rattle.cg_view.proofs.Committed.{all_in, one_appended, shorter}
use Rattle.cg_view.proofs.publisher.Publisher.append_rest.Goals as goal

pub loop-step-smaller : goal.loop-step-smaller
loop-step-smaller c = shorter _ _ _ c.in-Some.ensures.some

pub loop-step-preserved : goal.loop-step-preserved
loop-step-preserved c = record {
  opened = c.append.ensures.opening ∙ c.loop-step.invariant.opened;
  shown = c.append.ensures.published ∙ c.loop-step.invariant.shown;
  front = one_appended _ _ c.in_ok-copy.field-0 _ _ _ _ c.in_ok-append.ensures.ok c.in_ok-copy.ensures c.in-Some.ensures.some c.loop-step.invariant.front;
}

pub returns-clause-ok : goal.returns-clause-ok
returns-clause-ok c = all_in _ _ _ c.in_default.ensures.none c.loop-step.invariant.front
