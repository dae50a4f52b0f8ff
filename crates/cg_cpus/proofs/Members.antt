-- The members of a set of CPU numbers, as the numbers below 1,024 that it has.
use Rattle.std.proofs.Common.{◌≡◌, ◌≢◌, ℕ, zero, suc, ◌+◌, ◌<◌, ◌≤◌, Bool, true, false, ◌==◌, ◌||◌, cond, IsTrue, nat_lt, List, ◌∷◌, refl, sym, ap, ◌∙◌, arith, Less, nat_cmp}
use Rattle.std.specs.Cmp.{nat_cmp_is}
use Rattle.std.specs.List.{AllByRecursion, list_any}
use Rattle.std.specs.List.Sorted.{IsStrictlySortedBy}
use Rattle.std.proofs.lemmas.Bool.Decides.{nat_tests}
use Rattle.cg_maps.specs.FiniteSet.{FiniteSet, has, members, set_of}
use Rattle.cg_maps.proofs.Sets.{same_set, has-set_of, members-set_of}
use Rattle.cg_cpus.specs.CpuList.{runs}
use Rattle.cg_cpus.specs.Ascending.{passing, runs_from}

module _ (p : ℕ → Bool) where
  all_above : (d k m : ℕ) → m < k → AllByRecursion (λ n. nat_cmp m n ≡ Less) (passing k d p)
  unfolding passing
  all_above zero k m l = tt
  all_above (suc d) k m l =
      let rest = all_above d (k + 1) m (omega arith) in
      elim (p k) as (λ b. AllByRecursion (λ n. nat_cmp m n ≡ Less) (cond b (k ∷ passing (k + 1) d p) (passing (k + 1) d p))) [
        | true ↦ (sym (nat_cmp_is m k Less l), rest)
        | false ↦ rest
      ]

  ascend : (d k : ℕ) → IsStrictlySortedBy nat_cmp (passing k d p)
  unfolding passing IsStrictlySortedBy
  ascend zero k = tt
  ascend (suc d) k = elim (p k) as (λ b. IsStrictlySortedBy nat_cmp (cond b (k ∷ passing (k + 1) d p) (passing (k + 1) d p))) [
    | true ↦ (all_above d (k + 1) k (omega arith), ascend d (k + 1))
    | false ↦ ascend d (k + 1)
  ]

  among : ℕ → List ℕ → Bool
  among n ns = list_any (λ m. n == m) ns

  none_before : (d k n : ℕ) → n < k → list_any (λ m. n == m) (passing k d p) ≡ false
  unfolding passing
  none_before zero k n l = refl
  none_before (suc d) k n l =
      let rest = none_before d (k + 1) n (omega arith) in
      let apart : (n == k) ≡ false = grind (arith, nat_tests) in
      elim (p k) as (λ b. list_any (λ m. n == m) (cond b (k ∷ passing (k + 1) d p) (passing (k + 1) d p)) ≡ false) [
        | true ↦ ap (λ b. b || list_any (λ m. n == m) (passing (k + 1) d p)) apart ∙ rest
        | false ↦ rest
      ]

  none_behind : (d k n : ℕ) → k + d ≤ n → list_any (λ m. n == m) (passing k d p) ≡ false
  unfolding passing
  none_behind zero k n l = refl
  none_behind (suc d) k n l =
      let rest = none_behind d (k + 1) n (omega arith) in
      let apart : (n == k) ≡ false = grind (arith, nat_tests) in
      elim (p k) as (λ b. list_any (λ m. n == m) (cond b (k ∷ passing (k + 1) d p) (passing (k + 1) d p)) ≡ false) [
        | true ↦ ap (λ b. b || list_any (λ m. n == m) (passing (k + 1) d p)) apart ∙ rest
        | false ↦ rest
      ]

  within : (d k n : ℕ) → k ≤ n → n < k + d → list_any (λ m. n == m) (passing k d p) ≡ p n
  unfolding passing
  within zero k n l u = absurd (omega arith)
  within (suc d) k n l u = elim (n == k) as (λ b. (n == k) ≡ b → list_any (λ m. n == m) (cond (p k) (k ∷ passing (k + 1) d p) (passing (k + 1) d p)) ≡ p n) [
    | true ↦ λ e.
        let is : n ≡ k = grind (arith, nat_tests) in
        elim (p k) as (λ b. p k ≡ b → list_any (λ m. n == m) (cond b (k ∷ passing (k + 1) d p) (passing (k + 1) d p)) ≡ p n) [
          | true ↦ λ t. ap (λ b. b || list_any (λ m. n == m) (passing (k + 1) d p)) e ∙ sym (ap p is ∙ t)
          | false ↦ λ t. none_before d (k + 1) n (omega (arith, is)) ∙ sym (ap p is ∙ t)
        ] refl
    | false ↦ λ e.
        let ne : n ≢ k = grind (arith, nat_tests) in
        let rest = within d (k + 1) n (omega arith) (omega arith) in
        elim (p k) as (λ b. list_any (λ m. n == m) (cond b (k ∷ passing (k + 1) d p) (passing (k + 1) d p)) ≡ p n) [
          | true ↦ ap (λ b. b || list_any (λ m. n == m) (passing (k + 1) d p)) e ∙ rest
          | false ↦ rest
        ]
  ] refl

-- the members below 1,024 of a set that has no others
pub members-passing : (s : FiniteSet) → ((n : ℕ) → IsTrue (has s n) → n < 1024) → passing 0 1024 (has s) ≡ members s
members-passing s below =
    sym (members-set_of (passing 0 1024 (has s)) (ascend (has s) 1024 0))
    ∙ ap members (same_set (set_of (passing 0 1024 (has s))) s (λ n. has-set_of (passing 0 1024 (has s)) n ∙ same n))
  where
    same : (n : ℕ) → list_any (λ m. n == m) (passing 0 1024 (has s)) ≡ has s n
    same n = elim (nat_lt n 1024) as (λ b. nat_lt n 1024 ≡ b → list_any (λ m. n == m) (passing 0 1024 (has s)) ≡ has s n) [
      | true ↦ λ e. let l : n < 1024 = grind (arith, nat_tests) in within (has s) 1024 0 n (omega arith) (omega arith)
      | false ↦ λ e. let l : 1024 ≤ n = grind (arith, nat_tests) in none_behind (has s) 1024 0 n (omega arith) ∙ sym (absent (has s n) (λ t. below n t) l)
    ] refl
      where
        absent : (b : Bool) → (IsTrue b → n < 1024) → 1024 ≤ n → b ≡ false
        absent true f l = absurd (omega (arith, f refl))
        absent false f l = refl

-- all the runs
pub runs_from_first : (s : FiniteSet) → ((n : ℕ) → IsTrue (has s n) → n < 1024) → runs_from s 0 ≡ runs (members s)
unfolding runs_from
runs_from_first s below = ap runs (members-passing s below)
