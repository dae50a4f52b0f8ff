-- The elements of a list, one by one.
use Rattle.std.proofs.Common.{◌≡◌, ℕ, zero, suc, ◌<◌, ◌≤◌, ◌↔◌, ◌⊎◌, inl, inr, IsTrue, List, [], ◌∷◌, ◌++◌, length, get_or, refl, sym, ap, subst, ◌∙◌, true≢false, arith, length-append, ◌==◌, ◌≢◌, Bool, true, false}
use Rattle.std.proofs.lemmas.Bool.Decides.{nat_tests}
use Rattle.std.specs.List.{All, Any, slice_split}
use Rattle.std.proofs.lemmas.List.Quantifiers.{Any-push}
use Rattle.cg_maps.specs.FiniteSet.{FiniteSet, has, no_members}
use Rattle.cg_maps.proofs.Sets.{same_set, has-no_members}
use Rattle.cg_cpus.specs.CpuList.{SpellsRange, IsElement, StandsFor, SpellsElements, SpellsTrimmed}
use Rattle.cg_digits.specs.WhiteSpace.{without_leading_white_space, without_trailing_white_space}
use Rattle.cg_cpus.specs.Laws.{OneSet}
use Rattle.cg_cpus.proofs.Ranges.{one_range, ordered}

module _ {X : Type 0} (P : X → Type 0) where
  get_before : (xs : List X) (y d : X) (k : ℕ) → k < length xs → get_or (xs ++ y ∷ []) k d ≡ get_or xs k d
  get_before [] y d k l = absurd (omega arith)
  get_before (x ∷ xs) y d zero l = refl
  get_before (x ∷ xs) y d (suc k) l = get_before xs y d k (omega arith)

  get_last : (xs : List X) (y d : X) → get_or (xs ++ y ∷ []) (length xs) d ≡ y
  get_last [] y d = refl
  get_last (x ∷ xs) y d = get_last xs y d

  all_push : (xs : List X) (y : X) → All P xs → P y → All P (xs ++ y ∷ [])
  all_push xs y h p k d l = elim (k == length xs) as (λ b. (k == length xs) ≡ b → P (get_or (xs ++ y ∷ []) k d)) [
    | true ↦ λ e. let is : k ≡ length xs = grind (arith, nat_tests) in subst P (sym (get_last xs y d) ∙ ap (λ m. get_or (xs ++ y ∷ []) m d) (sym is)) p
    | false ↦ λ e.
        let ne : k ≢ length xs = grind (arith, nat_tests) in
        let within : k < length xs = omega (arith, l, length-append xs (y ∷ [])) in
        subst P (sym (get_before xs y d k within)) (h k d within)
  ] refl

  any_push : (xs : List X) (y : X) → Any P (xs ++ y ∷ []) → Any P xs ⊎ P y
  any_push xs y h = elim (h.0 == length xs) as (λ b. (h.0 == length xs) ≡ b → Any P xs ⊎ P y) [
    | true ↦ λ e. let is : h.0 ≡ length xs = grind (arith, nat_tests) in inr (subst P (sym h.3 ∙ ap (λ m. get_or (xs ++ y ∷ []) m h.1) is ∙ get_last xs y h.1) h.4)
    | false ↦ λ e.
        let ne : h.0 ≢ length xs = grind (arith, nat_tests) in
        let within : h.0 < length xs = omega (arith, h.2, length-append xs (y ∷ [])) in
        inl (h.0, h.1, within, sym (get_before xs y h.1 h.0 within) ∙ h.3, h.4)
  ] refl

  any_more : (xs : List X) (y : X) → Any P xs → Any P (xs ++ y ∷ [])
  any_more xs y h = (h.0, h.1, omega (arith, h.2, length-append xs (y ∷ [])), get_before xs y h.1 h.0 h.2 ∙ h.3, h.4)

pub nonempty : (text : List ℕ) → (length text == 0) ≡ false → 0 < length text
nonempty [] e = absurd (true≢false e)
nonempty (b ∷ bs) e = omega arith

-- no element spells the empty set
pub none_spelled : SpellsElements [] no_members
none_spelled = ((λ k d l. absurd (omega arith)), λ n. ((λ t. absurd (true≢false (sym t ∙ has-no_members n))), (λ h. absurd (omega (arith, h.2)))))

-- one more element spells what it stands for
pub one_more_spelled : (es : List (List ℕ)) (e : List ℕ) (s t : FiniteSet) (first last : ℕ) → SpellsElements es s → SpellsRange e first last
    → ((n : ℕ) → IsTrue (has t n) ↔ (IsTrue (has s n) ⊎ ((first ≤ n) × (n ≤ last)))) → SpellsElements (es ++ e ∷ []) t
one_more_spelled es e s t first last h r more = (
  all_push IsElement es e h.0 (first, last, r),
  λ n. ((λ m. to n ((more n).0 m)), (λ a. (more n).1 (from n (any_push (StandsFor n) es e a)))),
)
  where
    to : (n : ℕ) → IsTrue (has s n) ⊎ ((first ≤ n) × (n ≤ last)) → Any (StandsFor n) (es ++ e ∷ [])
    to n (inl m) = any_more (StandsFor n) es e ((h.1 n).0 m)
    to n (inr m) = Any-push (StandsFor n) es e (first, last, r, m.0, m.1)

    from : (n : ℕ) → Any (StandsFor n) es ⊎ StandsFor n e → IsTrue (has s n) ⊎ ((first ≤ n) × (n ≤ last))
    from n (inl a) = inl ((h.1 n).1 a)
    from n (inr a) =
        let same = one_range e a.0 a.1 first last a.2 r in
        inr (omega (arith, same.0, a.3), omega (arith, same.1, a.4))

-- a text that isn't empty spells what its elements do
pub spelled : (text : List ℕ) (s : FiniteSet) → 0 < length text → SpellsElements (slice_split (λ c. c == 44) text) s → SpellsTrimmed text s
spelled [] s l h = absurd (omega arith)
spelled (b ∷ bs) s l h = h

pub elements_of : (text : List ℕ) (s : FiniteSet) → 0 < length text → SpellsTrimmed text s → SpellsElements (slice_split (λ c. c == 44) text) s
elements_of [] s l h = absurd (omega arith)
elements_of (b ∷ bs) s l h = h

-- every number that is spelled is below 1,024
pub spelled_below : (text : List ℕ) (s : FiniteSet) → SpellsTrimmed text s → (n : ℕ) → IsTrue (has s n) → n < 1024
spelled_below [] s h n m = absurd (true≢false (sym m ∙ ap (λ t. has t n) h ∙ has-no_members n))
spelled_below (b ∷ bs) s h n m =
    let a = (h.1 n).0 m in
    omega (arith, (ordered a.1 a.4.0 a.4.1 a.4.2).1, a.4.4)

-- a text spells one set
pub one_set : OneSet
one_set text s t = trimmed (without_trailing_white_space (without_leading_white_space text))
  where
    equal : (b c : Bool) → (IsTrue b → IsTrue c) → (IsTrue c → IsTrue b) → b ≡ c
    equal true c f g = sym (f refl)
    equal false true f g = g refl
    equal false false f g = refl

    trimmed : (bs : List ℕ) → SpellsTrimmed bs s → SpellsTrimmed bs t → s ≡ t
    trimmed [] h k = h ∙ sym k
    trimmed (b ∷ bs) h k = same_set s t (λ n. equal _ _ (λ m. (k.1 n).1 ((h.1 n).0 m)) (λ m. (h.1 n).1 ((k.1 n).0 m)))
