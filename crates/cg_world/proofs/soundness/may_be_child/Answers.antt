use Rattle.std.proofs.Common.{◌≡◌, true, sym, ap, ◌∙◌, true≢false}
use Rattle.cg_text.specs.Controllers.{is_within}
use Rattle.cg_maps.specs.FiniteSet.{is_empty_set}
use Rattle.cg_world.proofs.SoundTrees.{child_by, tells_within}
use Rattle.cg_world.proofs.soundness.may_be_child.Goals as goal

pub returns-then-is_empty : goal.returns-then-is_empty
returns-then-is_empty c =
    let w : is_within c.args.settings.now.control c.args.parent.now.control ≡ true = (λ i. is_within (sym c.control.ensures i) (sym c.control-control.ensures i)) ∙ sym c.is_subset.ensures ∙ c.if-is_subset.true in
    let e : is_empty_set c.args.settings.now.cpus ≡ true = ap is_empty_set (sym c.cpus.ensures) ∙ sym c.is_empty.ensures ∙ c.if-is_empty.true in
    (λ _. child_by _ _ w (λ f. absurd (true≢false (sym e ∙ f))), λ _. c.if-is_empty.true)

pub returns-else-is_empty : goal.returns-else-is_empty
returns-else-is_empty c =
    let w : is_within c.args.settings.now.control c.args.parent.now.control ≡ true = (λ i. is_within (sym c.control.ensures i) (sym c.control-control.ensures i)) ∙ sym c.is_subset.ensures ∙ c.if-is_subset.true in
    let passed : c.control-control.result.cpuset ≡ c.args.parent.now.control.cpuset = ap (λ k. k.cpuset) c.control-control.ensures in (
      λ t. child_by _ _ w (λ _. sym passed ∙ t),
      λ h. passed ∙ h.cpus (ap is_empty_set (sym c.cpus.ensures) ∙ sym c.is_empty.ensures ∙ c.if-is_empty.false),
    )

pub returns-else-is_subset : goal.returns-else-is_subset
returns-else-is_subset c = (
  λ t. absurd (true≢false (sym t ∙ c.if-is_subset.false)),
  λ h. c.is_subset.ensures ∙ (λ i. is_within (c.control.ensures i) (c.control-control.ensures i)) ∙ tells_within c.args.settings.now.control c.args.parent.now.control h.control,
)
