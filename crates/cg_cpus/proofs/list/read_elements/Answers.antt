use Rattle.std.proofs.Common.{◌≡◌, ℕ, suc, ◌+◌, ◌<◌, ◌==◌, Result, Ok, Err, List, [], ◌∷◌, ◌++◌, length, take, get_or, sym, ap, subst, ◌∙◌, arith, length-append}
use Rattle.std.specs.Result.{OnErr}
use Rattle.std.specs.List.{slice_split}
use Rattle.std.proofs.lemmas.Iterator.Splits.{YieldsList-from_str_split}
use Rattle.std.proofs.lemmas.Iterator.Consumers.{YieldsList-at, YieldsList-turn, YieldsList-end}
use Rattle.std.proofs.Math.Seq.{take-suc, take-length}
use Rattle.cg_maps.specs.FiniteSet.{FiniteSet}
use Rattle.cg_cpus.specs.CpuList.{IsElement, SpellsElements, SpellsTrimmed}
use Rattle.cg_cpus.proofs.Grammar.{nonempty, none_spelled, one_more_spelled, spelled, elements_of}
use Rattle.cg_cpus.proofs.list.read_elements.Goals as goal

pub loop-element-init : goal.loop-element-init
loop-element-init c = subst (SpellsElements []) (sym c.empty-set.ensures) none_spelled

at_err : {T E Q : Type 0} (r : Result T E) → Q → OnErr r Q
at_err (Ok x) q = tt
at_err (Err e) q = q

-- the elements so far and the next
taken : (all : List (List ℕ)) (k m : ℕ) (x : List ℕ) → k < length all → x ≡ get_or all k x → m ≡ k + 1 → take m all ≡ take k all ++ x ∷ []
taken all k m x l is e = ap (λ n. take n all) (e ∙ one) ∙ take-suc all k x l ∙ ap (λ y. take k all ++ y ∷ []) (sym is)
  where
    one : k + 1 ≡ suc k
    one = omega arith

pub loop-element-preserved : goal.loop-element-preserved
loop-element-preserved c =
    let all : List (List ℕ) = slice_split (λ b. b == 44) c.args.text.now in
    let t = YieldsList-turn (YieldsList-at c.into_iter-element-iterator.ensures.into_iter_gives (YieldsList-from_str_split 44 c.args.text.now (omega arith) c.split-element-items.ensures.text c.split-element-items.ensures.has_more c.split-element-items.ensures.pattern)) c.loop-element.yielded _ c.loop-element.yielded_by _ _ c.in-Some.element c.in-Some.is c.next.ensures.steps in
    let longer : length (c.loop-element.yielded ++ c.in-Some.element ∷ []) ≡ length c.loop-element.yielded + 1 = length-append c.loop-element.yielded (c.in-Some.element ∷ []) in
    subst (λ es. SpellsElements es c.insert_range.new.self) (sym (taken all (length c.loop-element.yielded) _ c.in-Some.element.now t.0 t.1 longer))
    (one_more_spelled _ c.in-Some.element.now c.loop-element.set c.insert_range.new.self c.in_ok-first.first c.in_ok-first.last c.loop-element.invariant c.in_ok-first.ensures.value c.insert_range.ensures)

pub returns-in_err-first-clause-syntax : goal.returns-in_err-first-clause-syntax
returns-in_err-first-clause-syntax c =
    let t = YieldsList-turn (YieldsList-at c.into_iter-element-iterator.ensures.into_iter_gives (YieldsList-from_str_split 44 c.args.text.now (omega arith) c.split-element-items.ensures.text c.split-element-items.ensures.has_more c.split-element-items.ensures.pattern)) c.loop-element.yielded _ c.loop-element.yielded_by _ _ c.in-Some.element c.in-Some.is c.next.ensures.steps in
    let refused : (s : FiniteSet) → SpellsTrimmed c.args.text.now s → ⊥ = λ s h.
    let e = subst IsElement (sym t.1) ((elements_of c.args.text.now s (nonempty c.args.text.now (sym c.is_empty.ensures ∙ c.if-is_empty.false)) h).0 (length c.loop-element.yielded) c.in-Some.element.now t.0) in
    c.in_err-first.ensures.syntax e.0 e.1 e.2 in
    at_err _ refused

pub returns-clause-value : goal.returns-clause-value
returns-clause-value c =
    let all : List (List ℕ) = slice_split (λ b. b == 44) c.args.text.now in
    let t = YieldsList-end (YieldsList-at c.into_iter-element-iterator.ensures.into_iter_gives (YieldsList-from_str_split 44 c.args.text.now (omega arith) c.split-element-items.ensures.text c.split-element-items.ensures.has_more c.split-element-items.ensures.pattern)) c.loop-element.yielded _ c.loop-element.yielded_by _ _ c.in-None.is c.next.ensures.steps in
    let whole : take (length c.loop-element.yielded) all ≡ all = ap (λ n. take n all) t.1 ∙ take-length all in
    spelled c.args.text.now c.loop-element.set (nonempty c.args.text.now (sym c.is_empty.ensures ∙ c.if-is_empty.false)) (subst (λ es. SpellsElements es c.loop-element.set) whole c.loop-element.invariant)
