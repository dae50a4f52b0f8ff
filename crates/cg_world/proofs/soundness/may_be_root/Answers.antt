use Rattle.std.proofs.Common.{◌≡◌, Bool, true, false, not, refl, sym, ap, ◌∙◌, true≢false}
use Rattle.cg_maps.specs.FiniteSet.{is_empty_set}
use Rattle.cg_text.specs.Controllers.{is_within}
use Rattle.cg_world.proofs.SoundTrees.{root_by, tells_within}
use Rattle.cg_world.proofs.soundness.may_be_root.Goals as goal
use Rattle.cg_world.proofs.soundness.may_be_root.Goals.{then-is_subset, else-is_subset}

not_true : (b : Bool) → not b ≡ true → b ≡ false
not_true true e = absurd (true≢false (sym e))
not_true false e = refl

pub returns-then-not-freeze : goal.returns-then-not-freeze
returns-then-not-freeze c = elim c.if-is_subset.branch [
  | then-is_subset w ↦
      let s = c.args.settings.now in
      let inside : is_within s.control c.args.tree.now.controllers ≡ true = (λ i. is_within (sym c.control.ensures i) (sym c.controllers.ensures.value i)) ∙ sym c.is_subset.ensures ∙ w.if-is_subset.true in
      let running : s.freeze ≡ false = sym w.freeze.ensures ∙ not_true w.freeze.result (sym w.value-is ∙ c.if-not-freeze.true) in
      let none : c.is_empty.result ≡ is_empty_set s.cpus = c.is_empty.ensures ∙ ap is_empty_set c.cpus.ensures in
      (λ t. root_by c.args.tree.now s inside running (sym none ∙ t), λ h. none ∙ h.cpus)
  | else-is_subset w ↦ absurd (true≢false (sym c.if-not-freeze.true ∙ w.value-is ∙ w.if-is_subset.false))
]

pub returns-else-not-freeze : goal.returns-else-not-freeze
returns-else-not-freeze c = elim c.if-is_subset.branch [
  | then-is_subset w ↦ (
    λ t. absurd (true≢false (sym t ∙ c.if-not-freeze.false)),
    λ h. w.value-is ∙ ap not (w.freeze.ensures ∙ h.freeze),
  )
  | else-is_subset w ↦ (
    λ t. absurd (true≢false (sym t ∙ c.if-not-freeze.false)),
    λ h. w.value-is ∙ c.is_subset.ensures ∙ (λ i. is_within (c.control.ensures i) (c.controllers.ensures.value i)) ∙ tells_within c.args.settings.now.control c.args.tree.now.controllers h.control,
  )
]
