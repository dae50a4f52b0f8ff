-- The runs of a set, from a number on.
use Rattle.std.proofs.Common.{◌≡◌, ◌≢◌, ℕ, zero, suc, ◌+◌, ◌-◌, ◌<◌, ◌≤◌, Bool, true, false, ◌==◌, cond, List, [], ◌∷◌, refl, sym, ap, subst, ◌∙◌, true≢false, arith}
use Rattle.std.proofs.lemmas.Bool.Decides.{nat_tests}
use Rattle.cg_maps.specs.FiniteSet.{FiniteSet, has}
use Rattle.cg_cpus.specs.CpuList.{onto_runs, runs}
use Rattle.cg_cpus.specs.Ascending.{passing, runs_from}

module _ (p : ℕ → Bool) where
  -- what doesn't pass is passed over
  skip : (d k g : ℕ) → ((n : ℕ) → k ≤ n → n < k + g → p n ≡ false) → passing k (g + d) p ≡ passing (k + g) d p
  unfolding passing
  skip d k zero h = λ i. passing (here i) (none i) p
    where
      here : k ≡ k + 0
      here = omega arith

      none : 0 + d ≡ d
      none = omega arith
  skip d k (suc g) h =
      ap (λ m. passing k m p) {x = suc g + d} {y = suc (g + d)} (omega arith)
      ∙ ap (λ b. cond b (k ∷ passing (k + 1) (g + d) p) (passing (k + 1) (g + d) p)) (h k (omega arith) (omega arith))
      ∙ skip d (k + 1) g (λ n l m. h n (omega arith) (omega arith))
      ∙ ap (λ m. passing m d p) {x = k + 1 + g} {y = k + suc g} (omega arith)

  none_pass : (d k : ℕ) → ((n : ℕ) → k ≤ n → n < k + d → p n ≡ false) → passing k d p ≡ []
  unfolding passing
  none_pass zero k h = refl
  none_pass (suc d) k h =
      ap (λ b. cond b (k ∷ passing (k + 1) d p) (passing (k + 1) d p)) (h k (omega arith) (omega arith))
      ∙ none_pass d (k + 1) (λ n l m. h n (omega arith) (omega arith))

  -- the first run begins at k or behind it
  abbrev BeginsFrom : ℕ → List (ℕ × ℕ) → Type 0
  BeginsFrom k [] = Unit {0}
  BeginsFrom k (r ∷ rs) = k ≤ r.0

  onto_begins : (n : ℕ) (rs : List (ℕ × ℕ)) → BeginsFrom n (onto_runs n rs)
  onto_begins n [] = omega arith
  onto_begins n (r ∷ rs) = elim (r.0 == n + 1) as (λ b. BeginsFrom n (cond b ((n, r.1) ∷ rs) ((n, n) ∷ r ∷ rs))) [ true ↦ omega arith | false ↦ omega arith ]

  later : (k : ℕ) (rs : List (ℕ × ℕ)) → BeginsFrom (k + 1) rs → BeginsFrom k rs
  later k [] h = tt
  later k (r ∷ rs) h = omega arith

  begins : (d k : ℕ) → BeginsFrom k (runs (passing k d p))
  unfolding passing
  begins zero k = tt
  begins (suc d) k = elim (p k) as (λ b. BeginsFrom k (runs (cond b (k ∷ passing (k + 1) d p) (passing (k + 1) d p)))) [ true ↦ onto_begins k _ | false ↦ later k _ (begins d (k + 1)) ]

  -- past a number that doesn't pass the runs begin later
  begins_later : (d k : ℕ) → (0 < d → p k ≡ false) → BeginsFrom (k + 1) (runs (passing k d p))
  unfolding passing
  begins_later zero k h = tt
  begins_later (suc d) k h = subst (λ b. BeginsFrom (k + 1) (runs (cond b (k ∷ passing (k + 1) d p) (passing (k + 1) d p)))) (sym (h (omega arith))) (begins d (k + 1))

  alone : (k : ℕ) (rs : List (ℕ × ℕ)) → BeginsFrom (k + 2) rs → onto_runs k rs ≡ (k, k) ∷ rs
  alone k [] h = refl
  alone k (r ∷ rs) h =
      let apart : (r.0 == k + 1) ≡ false = grind (arith, nat_tests) in
      ap (λ b. cond b ((k, r.1) ∷ rs) ((k, k) ∷ r ∷ rs)) apart

  joins : (k last : ℕ) (rs : List (ℕ × ℕ)) → onto_runs k ((k + 1, last) ∷ rs) ≡ (k, last) ∷ rs
  joins k last rs =
      let next : (k + 1 == k + 1) ≡ true = grind (arith, nat_tests) in
      ap (λ b. cond b ((k, last) ∷ rs) ((k, k) ∷ (k + 1, last) ∷ rs)) next

  -- a run of g + 1 numbers, and what doesn't pass behind it
  one_run : (d k g : ℕ) → ((n : ℕ) → k ≤ n → n < k + suc g → p n ≡ true) → (0 < d → p (k + suc g) ≡ false) → runs (passing k (suc g + d) p) ≡ (k, k + g) ∷ runs (passing (k + suc g) d p)
  unfolding passing
  one_run d k zero h e =
      ap (λ m. runs (passing k m p)) {x = 1 + d} {y = suc d} (omega arith)
      ∙ ap (λ b. runs (cond b (k ∷ passing (k + 1) d p) (passing (k + 1) d p))) (h k (omega arith) (omega arith))
      ∙ alone k (runs (passing (k + 1) d p)) (subst (λ m. BeginsFrom m (runs (passing (k + 1) d p))) {x = k + 1 + 1} {y = k + 2} (omega arith) (begins_later d (k + 1) e))
      ∙ (λ i. (k, last i) ∷ runs (passing (k + 1) d p))
    where
      last : k ≡ k + 0
      last = omega arith
  one_run d k (suc g) h e =
      ap (λ m. runs (passing k m p)) {x = suc (suc g) + d} {y = suc (suc g + d)} (omega arith)
      ∙ ap (λ b. runs (cond b (k ∷ passing (k + 1) (suc g + d) p) (passing (k + 1) (suc g + d) p))) (h k (omega arith) (omega arith))
      ∙ ap (onto_runs k) (one_run d (k + 1) g (λ n l m. h n (omega arith) (omega arith)) (λ l. ap p {x = k + 1 + suc g} {y = k + suc (suc g)} (omega arith) ∙ e l))
      ∙ joins k (k + 1 + g) (runs (passing (k + 1 + suc g) d p))
      ∙ (λ i. (k, last i) ∷ runs (passing (behind i) d p))
    where
      last : k + 1 + g ≡ k + suc g
      last = omega arith

      behind : k + 1 + suc g ≡ k + suc (suc g)
      behind = omega arith

pub no_runs : (s : FiniteSet) (from : ℕ) → from ≤ 1024 → ((n : ℕ) → from ≤ n → n < 1024 → has s n ≡ false) → runs_from s from ≡ []
unfolding runs_from
no_runs s from l h = ap runs (none_pass (has s) (1024 - from) from (λ n k m. h n k (omega arith)))

pub first_run : (s : FiniteSet) (from a e : ℕ) → from ≤ a → a < 1024 → a ≤ e → e ≤ 1024
    → ((n : ℕ) → from ≤ n → n < a → has s n ≡ false) → has s a ≡ true
    → ((n : ℕ) → a ≤ n → n < e → has s n ≡ true) → (e < 1024 → has s e ≡ false)
    → runs_from s from ≡ (a, e - 1) ∷ runs_from s (e - 1 + 1)
unfolding runs_from
first_run s from a e l t m u before here within behind =
    let ne : a ≢ e = λ i. true≢false (sym here ∙ ap (has s) i ∙ behind (omega (arith, i))) in
    let more : a < e = omega arith in
    (λ i. runs (passing from (whole i) (has s)))
    ∙ ap runs (skip (has s) (1024 - a) from (a - from) (λ n k j. before n k (omega arith)))
    ∙ (λ i. runs (passing (first i) (rest more i) (has s)))
    ∙ one_run (has s) (1024 - e) a (e - 1 - a) (λ n k j. within n k (omega arith)) (λ k. ap (has s) (end more) ∙ behind (omega arith))
    ∙ (λ i. (a, last more i) ∷ runs (passing (next more i) (left more i) (has s)))
  where
    whole : 1024 - from ≡ (a - from) + (1024 - a)
    whole = omega arith

    first : from + (a - from) ≡ a
    first = omega arith

    rest : a < e → 1024 - a ≡ suc (e - 1 - a) + (1024 - e)
    rest more = omega arith

    end : a < e → a + suc (e - 1 - a) ≡ e
    end more = omega arith

    last : a < e → a + (e - 1 - a) ≡ e - 1
    last more = omega arith

    next : a < e → a + suc (e - 1 - a) ≡ e - 1 + 1
    next more = omega arith

    left : a < e → 1024 - e ≡ 1024 - (e - 1 + 1)
    left more = omega arith
