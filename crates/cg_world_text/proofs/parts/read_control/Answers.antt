-- The names are the parts between the commas.
use Rattle.std.proofs.Common.{◌≡◌, ℕ, ◌+◌, ◌==◌, inl, inr, List, [], ◌∷◌, ◌++◌, length, drop, ap, subst, sym, ◌∙◌, arith, length-append}
use Rattle.std.specs.Cmp.Lexicographic.{same_text, other_text}
use Rattle.std.specs.List.{slice_split}
use Rattle.std.proofs.Math.Seq.{drop-length}
use Rattle.std.proofs.lemmas.Iterator.Splits.{YieldsList-from_str_split}
use Rattle.std.proofs.lemmas.Iterator.Consumers.{YieldsList-at, YieldsList-turn, YieldsList-end}
use Rattle.cg_text.specs.declared.controllers.Controllers.{Controllers}
use Rattle.cg_world_text.specs.Statement.{AddsControllers, SpellsControl}
use Rattle.cg_world_text.proofs.Adding.{next_left, next_round, no_round, all_taken, at_err}
use Rattle.cg_world_text.proofs.parts.read_control.Goals as goal

pub loop-name-init : goal.loop-name-init
loop-name-init c = λ all.
    let parts : List (List ℕ) = slice_split (λ b. b == 44) c.args.word.now in
    ((λ h. subst (λ s. AddsControllers s parts all) (sym c.empty-set.ensures) h), (λ h. subst (λ s. AddsControllers s parts all) c.empty-set.ensures h))

pub loop-name-preserved : goal.loop-name-preserved
loop-name-preserved c = λ all.
    let parts : List (List ℕ) = slice_split (λ b. b == 44) c.args.word.now in
    let t = YieldsList-turn (YieldsList-at c.into_iter-name-iterator.ensures.into_iter_gives (YieldsList-from_str_split 44 c.args.word.now (omega arith) c.split-name-items.ensures.text c.split-name-items.ensures.has_more c.split-name-items.ensures.pattern)) c.loop-name.yielded _ c.loop-name.yielded_by _ _ c.in-Some.name c.in-Some.is c.next.ensures.steps in
    let longer : length (c.loop-name.yielded ++ c.in-Some.name ∷ []) ≡ length c.loop-name.yielded + 1 = length-append c.loop-name.yielded (c.in-Some.name ∷ []) in
    let left = next_left parts (length c.loop-name.yielded) c.in-Some.name.now t.0 t.1 ∙ ap (λ n. c.in-Some.name.now ∷ drop n parts) (sym longer) in
    next_round _ c.loop-name.set c.add_controller.new.set c.in-Some.name.now _ _ all left c.in_ok-add_controller.ensures.value (c.loop-name.invariant all)

pub returns-in_err-add_controller-clause-syntax : goal.returns-in_err-add_controller-clause-syntax
returns-in_err-add_controller-clause-syntax c =
    let parts : List (List ℕ) = slice_split (λ b. b == 44) c.args.word.now in
    let t = YieldsList-turn (YieldsList-at c.into_iter-name-iterator.ensures.into_iter_gives (YieldsList-from_str_split 44 c.args.word.now (omega arith) c.split-name-items.ensures.text c.split-name-items.ensures.has_more c.split-name-items.ensures.pattern)) c.loop-name.yielded _ c.loop-name.yielded_by _ _ c.in-Some.name c.in-Some.is c.next.ensures.steps in
    let left = next_left parts (length c.loop-name.yielded) c.in-Some.name.now t.0 t.1 in
    let refused : (all : Controllers) → SpellsControl c.args.word.now all → ⊥ = λ all h. elim h [
      | inl e ↦ other_text _ _ c.if-eq.ensures e.0
      | inr k ↦ no_round _ c.loop-name.set c.in-Some.name.now _ _ all left c.in_err-add_controller.ensures.syntax (c.loop-name.invariant all) k
    ] in
    at_err _ refused

pub returns-then-eq-clause-value : goal.returns-then-eq-clause-value
returns-then-eq-clause-value c = inl (same_text _ _ c.if-eq.ensures, c.empty-set.ensures)

pub returns-clause-value : goal.returns-clause-value
returns-clause-value c =
    let parts : List (List ℕ) = slice_split (λ b. b == 44) c.args.word.now in
    let t = YieldsList-end (YieldsList-at c.into_iter-name-iterator.ensures.into_iter_gives (YieldsList-from_str_split 44 c.args.word.now (omega arith) c.split-name-items.ensures.text c.split-name-items.ensures.has_more c.split-name-items.ensures.pattern)) c.loop-name.yielded _ c.loop-name.yielded_by _ _ c.in-None.is c.next.ensures.steps in
    inr (all_taken _ c.loop-name.set _ (ap (λ n. drop n parts) t.1 ∙ drop-length parts) (c.loop-name.invariant c.loop-name.set))
