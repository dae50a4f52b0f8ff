-- The canonical text of a set spells the set.
use Rattle.std.proofs.Common.{◌≡◌, ℕ, suc, ◌+◌, ◌<◌, ◌≤◌, ◌⊎◌, inl, inr, Bool, true, false, ◌==◌, ◌&&◌, ◌||◌, cond, nat_le, List, [], ◌∷◌, ◌++◌, map, length, get_or, refl, sym, ap, subst, ◌∙◌, true≢false, arith, zero}
use Rattle.std.specs.Fmt.{decimal}
use Rattle.std.specs.List.{Any, AllByRecursion, list_any, join_with_byte}
use Rattle.std.proofs.lemmas.Bool.Decides.{nat_tests}
use Rattle.std.proofs.lemmas.Fmt.{decimal_is_IsNumeral}
use Rattle.cg_maps.specs.FiniteSet.{FiniteSet, has, members, no_members}
use Rattle.cg_maps.proofs.Sets.{has-members, same_set, has-no_members}
use Rattle.cg_cpus.specs.CpuList.{IsCpuNumber, SpellsRange, IsElement, StandsFor, SpellsElements, SpellsTrimmed, onto_runs, runs, run_text}
use Rattle.cg_cpus.specs.Laws.{CanonicalSpells}
use Rattle.cg_cpus.proofs.Bytes.{IsElementByte, all_by_index, cut, element_bytes, element_nonempty, untrimmed}
use Rattle.cg_cpus.proofs.Ranges.{one_range}
use Rattle.cg_cpus.proofs.Grammar.{spelled}

-- ---- lists

any_none : {X : Type 0} (P : X → Type 0) → Any P [] → ⊥
any_none P h = omega (arith, h.2)

any_cons : {X : Type 0} (P : X → Type 0) (x : X) (xs : List X) → Any P (x ∷ xs) → P x ⊎ Any P xs
any_cons {X = X} P x xs h = at h.0 h.1 h.2 h.3 h.4
  where
    at : (k : ℕ) (y : X) → k < length (x ∷ xs) → get_or (x ∷ xs) k y ≡ y → P y → P x ⊎ Any P xs
    at zero y l is p = inl (subst P (sym is) p)
    at (suc k) y l is p = inr (k, y, omega arith, is, p)

any_here : {X : Type 0} (P : X → Type 0) (x : X) (xs : List X) → P x → Any P (x ∷ xs)
any_here P x xs p = (0, x, omega arith, refl, p)

any_later : {X : Type 0} (P : X → Type 0) (x : X) (xs : List X) → Any P xs → Any P (x ∷ xs)
any_later P x xs h = (suc h.0, h.1, omega (arith, h.2), h.3, h.4)

-- ---- the runs of some numbers below 1,024

IsRun : ℕ × ℕ → Type 0
IsRun r = (r.0 ≤ r.1) × (r.1 < 1024)

onto_are_runs : (n : ℕ) (rs : List (ℕ × ℕ)) → n < 1024 → AllByRecursion IsRun rs → AllByRecursion IsRun (onto_runs n rs)
unfolding IsRun
onto_are_runs n [] l h = ((omega arith, l), tt)
onto_are_runs n (r ∷ rs) l h = elim (r.0 == n + 1) as (λ b. (r.0 == n + 1) ≡ b → AllByRecursion IsRun (cond b ((n, r.1) ∷ rs) ((n, n) ∷ r ∷ rs))) [
  | true ↦ λ e. let is : r.0 ≡ n + 1 = grind (arith, nat_tests) in ((omega (arith, h.0.0), h.0.1), h.1)
  | false ↦ λ e. ((omega arith, l), h)
] refl

are_runs : (ns : List ℕ) → AllByRecursion (λ n. n < 1024) ns → AllByRecursion IsRun (runs ns)
are_runs [] h = tt
are_runs (n ∷ ns) h = onto_are_runs n (runs ns) h.0 (are_runs ns h.1)

-- a number lies in a run
abbrev lies_in : ℕ → ℕ × ℕ → Bool
lies_in n r = nat_le r.0 n && nat_le n r.1

run_of_one : (n k : ℕ) → (nat_le k n && nat_le n k) ≡ (n == k)
run_of_one n k = grind (arith, nat_tests)

longer_run : (n k first last : ℕ) → first ≡ k + 1 → first ≤ last → (nat_le k n && nat_le n last) ≡ ((n == k) || (nat_le first n && nat_le n last))
longer_run n k first last e l = grind (arith, nat_tests)

or_assoc : (a b c : Bool) → ((a || b) || c) ≡ (a || (b || c))
or_assoc true b c = refl
or_assoc false b c = refl

in_onto : (n k : ℕ) (rs : List (ℕ × ℕ)) → AllByRecursion IsRun rs → list_any (lies_in n) (onto_runs k rs) ≡ ((n == k) || list_any (lies_in n) rs)
unfolding IsRun
in_onto n k [] h = ap (λ b. b || false) (run_of_one n k)
in_onto n k (r ∷ rs) h = elim (r.0 == k + 1) as (λ b. (r.0 == k + 1) ≡ b → list_any (lies_in n) (cond b ((k, r.1) ∷ rs) ((k, k) ∷ r ∷ rs)) ≡ ((n == k) || list_any (lies_in n) (r ∷ rs))) [
  | true ↦ λ e.
      let is : r.0 ≡ k + 1 = grind (arith, nat_tests) in
      ap (λ b. b || list_any (lies_in n) rs) (longer_run n k r.0 r.1 is h.0.0) ∙ or_assoc (n == k) (lies_in n r) (list_any (lies_in n) rs)
  | false ↦ λ e. ap (λ b. b || list_any (lies_in n) (r ∷ rs)) (run_of_one n k)
] refl

in_runs : (n : ℕ) (ns : List ℕ) → AllByRecursion (λ m. m < 1024) ns → list_any (lies_in n) (runs ns) ≡ list_any (λ m. n == m) ns
in_runs n [] h = refl
in_runs n (k ∷ ns) h = in_onto n k (runs ns) (are_runs ns h.1) ∙ ap (λ b. (n == k) || b) (in_runs n ns h.1)

-- ---- the elements

cpu_number : (n : ℕ) → n < 1024 → IsCpuNumber (decimal n) n
cpu_number n l = let d = decimal_is_IsNumeral n (omega arith) in (d.0, d.1, omega arith)

spells_run : (r : ℕ × ℕ) → IsRun r → SpellsRange (run_text r) r.0 r.1
unfolding IsRun
spells_run r h = elim (r.0 == r.1) as (λ b. (r.0 == r.1) ≡ b → SpellsRange (cond b (decimal r.0) (decimal r.0 ++ 45 ∷ decimal r.1)) r.0 r.1) [
  | true ↦ λ e. let is : r.1 ≡ r.0 = grind (arith, nat_tests) in inl (cpu_number r.0 (omega (arith, h.0, h.1)), is)
  | false ↦ λ e. inr (decimal r.0, decimal r.1, refl, cpu_number r.0 (omega (arith, h.0, h.1)), cpu_number r.1 h.1, h.0)
] refl

all_elements : (rs : List (ℕ × ℕ)) → AllByRecursion IsRun rs → AllByRecursion IsElement (map run_text rs)
all_elements [] h = tt
all_elements (r ∷ rs) h = ((r.0, r.1, spells_run r h.0), all_elements rs h.1)

lies : (n : ℕ) (r : ℕ × ℕ) → r.0 ≤ n → n ≤ r.1 → lies_in n r ≡ true
lies n r l m = grind (arith, nat_tests)

lies_back : (n : ℕ) (r : ℕ × ℕ) → lies_in n r ≡ true → (r.0 ≤ n) × (n ≤ r.1)
lies_back n r e = (grind (arith, nat_tests), grind (arith, nat_tests))

or_true : (b : Bool) → (b || true) ≡ true
or_true true = refl
or_true false = refl

to_run : (n : ℕ) (rs : List (ℕ × ℕ)) → AllByRecursion IsRun rs → Any (StandsFor n) (map run_text rs) → list_any (lies_in n) rs ≡ true
to_run n [] h a = absurd (any_none (StandsFor n) a)
to_run n (r ∷ rs) h a = from (to_run n rs h.1) (any_cons (StandsFor n) (run_text r) (map run_text rs) a)
  where
    from : (Any (StandsFor n) (map run_text rs) → list_any (lies_in n) rs ≡ true) → StandsFor n (run_text r) ⊎ Any (StandsFor n) (map run_text rs) → (lies_in n r || list_any (lies_in n) rs) ≡ true
    from others (inl s) =
        let same = one_range (run_text r) s.0 s.1 r.0 r.1 s.2 (spells_run r h.0) in
        ap (λ b. b || list_any (lies_in n) rs) (lies n r (omega (arith, same.0, s.3)) (omega (arith, same.1, s.4)))
    from others (inr s) = ap (λ b. lies_in n r || b) (others s) ∙ or_true (lies_in n r)

from_run : (n : ℕ) (rs : List (ℕ × ℕ)) → AllByRecursion IsRun rs → list_any (lies_in n) rs ≡ true → Any (StandsFor n) (map run_text rs)
from_run n [] h e = absurd (true≢false (sym e))
from_run n (r ∷ rs) h e = elim (lies_in n r) as (λ b. lies_in n r ≡ b → (b || list_any (lies_in n) rs) ≡ true → Any (StandsFor n) (map run_text (r ∷ rs))) [
  | true ↦ λ t _. let l = lies_back n r t in any_here (StandsFor n) (run_text r) (map run_text rs) (r.0, r.1, spells_run r h.0, l.0, l.1)
  | false ↦ λ t f. any_later (StandsFor n) (run_text r) (map run_text rs) (from_run n rs h.1 f)
] refl e

all_element_bytes : (rs : List (ℕ × ℕ)) → AllByRecursion IsRun rs → AllByRecursion (AllByRecursion IsElementByte) (map run_text rs)
all_element_bytes [] h = tt
all_element_bytes (r ∷ rs) h = (element_bytes (run_text r) r.0 r.1 (spells_run r h.0), all_element_bytes rs h.1)

-- ---- the law

members_below : (ns : List ℕ) → ((n : ℕ) → list_any (λ m. n == m) ns ≡ true → n < 1024) → AllByRecursion (λ n. n < 1024) ns
members_below [] h = tt
members_below (m ∷ ns) h = (h m (ap (λ b. b || list_any (λ k. m == k) ns) (itself m)), members_below ns (λ n e. h n (ap (λ b. (n == m) || b) e ∙ or_true (n == m))))
  where
    itself : (m : ℕ) → (m == m) ≡ true
    itself m = grind (arith, nat_tests)

nonempty_join : (e : List ℕ) (es : List (List ℕ)) → 0 < length e → 0 < length (join_with_byte 44 (e ∷ es))
nonempty_join e [] l = l
nonempty_join [] (f ∷ es) l = absurd (omega arith)
nonempty_join (b ∷ e) (f ∷ es) l = omega arith

spells_runs : (rs : List (ℕ × ℕ)) (s : FiniteSet) → AllByRecursion IsRun rs → ((n : ℕ) → has s n ≡ list_any (lies_in n) rs) → SpellsTrimmed (join_with_byte 44 (map run_text rs)) s
spells_runs [] s h is = same_set s no_members (λ n. is n ∙ sym (has-no_members n))
spells_runs (r ∷ rs) s h is =
    spelled (join_with_byte 44 (map run_text (r ∷ rs))) s (nonempty_join (run_text r) (map run_text rs) (element_nonempty (run_text r) r.0 r.1 (spells_run r h.0)))
    (subst (λ es. SpellsElements es s) (sym (cut (run_text r) (map run_text rs) (all_element_bytes (r ∷ rs) h))) (
      all_by_index IsElement (map run_text (r ∷ rs)) (all_elements (r ∷ rs) h),
      λ n. ((λ t. from_run n (r ∷ rs) h (sym (is n) ∙ t)), (λ a. is n ∙ to_run n (r ∷ rs) h a)),
    ))

pub canonical_spells : CanonicalSpells
canonical_spells s below =
    let small = members_below (members s) (λ n e. below n (has-members s n ∙ e)) in
    let valid = are_runs (members s) small in
    subst (λ bs. SpellsTrimmed bs s) (sym (untrimmed (map run_text (runs (members s))) (all_element_bytes (runs (members s)) valid)))
    (spells_runs (runs (members s)) s valid (λ n. has-members s n ∙ sym (in_runs n (members s) small)))
