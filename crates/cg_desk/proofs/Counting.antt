-- How many sessions have a number, and how many calls are left.
use Rattle.std.proofs.Common.{◌≡◌, ℕ, ◌+◌, ◌≤◌, ◌<◌, ◌==◌, nat_le, ◌&&◌, Bool, true, false, cond, List, [], ◌∷◌, length, map, reverse, Option, Some, None, is_some, IsSome, get_or, take, add-one, refl, sym, ap, subst, ◌∙◌, arith}
use Rattle.std.proofs.lemmas.Bool.{eqb-true, eq-eqb, leb-true, le-leb, false≢true}
use Rattle.std.proofs.lemmas.List.{map-append, reverse-append}
use Rattle.std.proofs.Math.Seq.{take-suc}
use Rattle.std.proofs.lemmas.List.Sums.{sum_by-cons, sum_by-take-le, count_by_more_yes}
use Rattle.std.proofs.lemmas.List.Sorted.{sum_by-IsPermutation, IsPermutation-reverse}
use Rattle.std.specs.Borrow.{Bor}
use Rattle.std.specs.Option.{option_copied}
use Rattle.std.specs.List.{AllByRecursion, count_by, sum_by}
use Rattle.cg_history.specs.SessionMap.{found, IsOnceEach}
use Rattle.cg_desk.specs.Audit.{AreNumbered}
use Rattle.cg_log.specs.Call.{Call, SessionState}
use Rattle.cg_log.specs.Rests.{Rests, rests_of}

-- what is added up over sessions is added up over their logs
sum_by-pairs : (f : ℕ × List Call → ℕ) (ss : List SessionState) → sum_by f (map (λ s. (s.number, s.log)) ss) ≡ sum_by (λ s. f (s.number, s.log)) ss
sum_by-pairs f [] = refl
sum_by-pairs f (s ∷ ss) =
    sum_by-cons f (s.number, s.log) (map (λ s. (s.number, s.log)) ss)
    ∙ ap (λ n. f (s.number, s.log) + n) (sum_by-pairs f ss)
    ∙ sym (sum_by-cons (λ s. f (s.number, s.log)) s ss)

pub sum_by-rests : (f : ℕ × List Call → ℕ) (ss : List SessionState) → sum_by f (rests_of ss) ≡ sum_by (λ s. f (s.number, s.log)) ss
sum_by-rests f ss =
    sum_by-IsPermutation f (map (λ s. (s.number, s.log)) ss) (rests_of ss) (IsPermutation-reverse (map (λ s. (s.number, s.log)) ss))
    ∙ sum_by-pairs f ss

-- a number counts where it is found
pub count_found : (n : ℕ) (xs : Rests) → IsOnceEach xs → count_by (λ x. x.0 == n) xs ≡ cond (is_some (found n xs)) 1 0
count_found n [] h = refl
count_found n (x ∷ xs) h =
    sum_by-cons (λ x. cond (x.0 == n) 1 0) x xs
    ∙ at (x.0 == n) refl (count_found n xs h.1)
  where
    at : (b : Bool) → (x.0 == n) ≡ b → count_by (λ x. x.0 == n) xs ≡ cond (is_some (found n xs)) 1 0
        → cond b 1 0 + count_by (λ x. x.0 == n) xs ≡ cond (is_some (cond b (Some x.1) (found n xs))) 1 0
    at true e rest =
        let none : found n xs ≡ None = ap (λ k. found k xs) (sym (eqb-true x.0 n e)) ∙ h.0 in
        ap (λ k. 1 + k) (rest ∙ ap (λ o. cond (is_some o) 1 0) none)
    at false e rest =
        let zero : 0 + count_by (λ x. x.0 == n) xs ≡ count_by (λ x. x.0 == n) xs = omega arith in
        zero ∙ rest

-- a number that is found is in the range of all
in_range : (P : ℕ → Type 0) (n : ℕ) (xs : Rests) → AllByRecursion (λ x. P x.0) xs → IsSome (found n xs) → P n
in_range P n [] h f = absurd (false≢true f)
in_range P n (x ∷ xs) h f = at (in_range P n xs h.1) (x.0 == n) refl f
  where
    at : (IsSome (found n xs) → P n) → (b : Bool) → (x.0 == n) ≡ b → IsSome (cond b (Some x.1) (found n xs)) → P n
    at rest true e f = subst P (eqb-true x.0 n e) h.0
    at rest false e f = rest f

-- tests that pass alike are equal
same_tests : (a b : Bool) → (a ≡ true → b ≡ true) → (b ≡ true → a ≡ true) → a ≡ b
same_tests true b f g = sym (f refl)
same_tests false true f g = g refl
same_tests false false f g = refl

within_is : (handed n : ℕ) → (nat_le 1 n && nat_le n handed) ≡ true → (1 ≤ n) × (n ≤ handed)
within_is handed n e = at (nat_le 1 n) (nat_le n handed) refl refl e
  where
    at : (a b : Bool) → nat_le 1 n ≡ a → nat_le n handed ≡ b → (a && b) ≡ true → (1 ≤ n) × (n ≤ handed)
    at true true p q e = (leb-true 1 n p, leb-true n handed q)
    at true false p q e = absurd (false≢true e)
    at false b p q e = absurd (false≢true e)

is_within : (handed n : ℕ) → 1 ≤ n → n ≤ handed → (nat_le 1 n && nat_le n handed) ≡ true
is_within handed n low high = (λ i. le-leb 1 n low i && le-leb n handed high i)

-- the numbers, as counted in the logs
count_is : (n : ℕ) (ss : List SessionState) → IsOnceEach (rests_of ss) → count_by (λ s. s.number == n) ss ≡ cond (is_some (found n (rests_of ss))) 1 0
count_is n ss once = sym (sum_by-rests (λ x. cond (x.0 == n) 1 0) ss) ∙ count_found n (rests_of ss) once

-- logs of distinct numbers, which are those from 1 to `handed`
pub numbered : (handed : ℕ) (ss : List SessionState) → IsOnceEach (rests_of ss) → AllByRecursion (λ x. (1 ≤ x.0) × (x.0 ≤ handed)) (rests_of ss)
    → ((n : ℕ) → 1 ≤ n → n ≤ handed → IsSome (found n (rests_of ss))) → AreNumbered handed ss
numbered handed ss once within all = λ n.
    count_is n ss once
    ∙ ap (λ b. cond b 1 0) (same_tests (is_some (found n (rests_of ss))) (nat_le 1 n && nat_le n handed)
    (λ f. let w : (1 ≤ n) × (n ≤ handed) = in_range (λ k. (1 ≤ k) × (k ≤ handed)) n (rests_of ss) within f in is_within handed n w.0 w.1)
    (λ e. let w : (1 ≤ n) × (n ≤ handed) = within_is handed n e in all n w.0 w.1))

one_at_most : (b : Bool) → cond b 1 0 ≤ 1
one_at_most true = omega arith
one_at_most false = omega arith

where_one : (b : Bool) → 1 ≤ cond b 1 0 → b ≡ true
where_one true h = refl
where_one false h = absurd (omega (arith, h))

-- and each of these has one
pub all_there : (handed : ℕ) (ss : List SessionState) → IsOnceEach (rests_of ss) → AreNumbered handed ss → (n : ℕ) → 1 ≤ n → n ≤ handed → IsSome (found n (rests_of ss))
all_there handed ss once numbers n low high =
    let one : cond (is_some (found n (rests_of ss))) 1 0 ≡ 1 = sym (count_is n ss once) ∙ numbers n ∙ ap (λ b. cond b 1 0) (is_within handed n low high) in
    where_one (is_some (found n (rests_of ss))) (omega (arith, one))

-- one more of a number counts
more : (n : ℕ) (ss : List SessionState) (i : ℕ) (d : SessionState) → i < length ss → (get_or ss i d).number ≡ n
    → count_by (λ s. s.number == n) (take i ss) + 1 ≤ count_by (λ s. s.number == n) ss
more n ss i d lt e =
    let one : count_by (λ s. s.number == n) (take (i + 1) ss) ≡ count_by (λ s. s.number == n) (take i ss) + 1 = count_by_more_yes (λ (s : SessionState). s.number == n) ss i d lt (eq-eqb (get_or ss i d).number n e) in
    let le : count_by (λ s. s.number == n) (take (i + 1) ss) ≤ count_by (λ s. s.number == n) ss = sum_by-take-le (λ s. cond (s.number == n) 1 0) ss (i + 1) in
    omega (arith, one, le)

-- a session's number is within
pub there : (handed : ℕ) (ss : List SessionState) (i : ℕ) (d : SessionState) → i < length ss → AreNumbered handed ss → (1 ≤ (get_or ss i d).number) × ((get_or ss i d).number ≤ handed)
there handed ss i d lt numbers =
    let n : ℕ = (get_or ss i d).number in
    let le : count_by (λ s. s.number == n) (take i ss) + 1 ≤ count_by (λ s. s.number == n) ss = more n ss i d lt refl in
    let is : count_by (λ s. s.number == n) ss ≡ cond (nat_le 1 n && nat_le n handed) 1 0 = numbers n in
    within_is handed n (where_one (nat_le 1 n && nat_le n handed) (omega (arith, le, is)))

-- and no session has it beside an earlier one
pub not_twice : (handed : ℕ) (ss : List SessionState) (i : ℕ) (d : SessionState) → i < length ss → IsOnceEach (rests_of (take i ss))
    → IsSome (found (get_or ss i d).number (rests_of (take i ss))) → AreNumbered handed ss → ⊥
not_twice handed ss i d lt once f numbers =
    let n : ℕ = (get_or ss i d).number in
    let le : count_by (λ s. s.number == n) (take i ss) + 1 ≤ count_by (λ s. s.number == n) ss = more n ss i d lt refl in
    let is : count_by (λ s. s.number == n) ss ≡ cond (nat_le 1 n && nat_le n handed) 1 0 = numbers n in
    let one : cond (nat_le 1 n && nat_le n handed) 1 0 ≤ 1 = one_at_most (nat_le 1 n && nat_le n handed) in
    let before : count_by (λ s. s.number == n) (take i ss) ≡ 1 = count_is n (take i ss) once ∙ ap (λ b. cond b 1 0) f in
    omega (arith, le, is, one, before)

-- one log more
pub next_rests : (ss : List SessionState) (i : ℕ) (d : SessionState) → i < length ss
    → rests_of (take (i + 1) ss) ≡ ((get_or ss i d).number, (get_or ss i d).log) ∷ rests_of (take i ss)
next_rests ss i d lt =
    ap rests_of (ap (λ k. take k ss) (add-one i) ∙ take-suc ss i d lt)
    ∙ ap reverse (map-append (λ s. (s.number, s.log)) (take i ss) (get_or ss i d ∷ []))
    ∙ reverse-append (map (λ s. (s.number, s.log)) (take i ss)) (((get_or ss i d).number, (get_or ss i d).log) ∷ [])

pub is_some-copied : {A : Type 0} (r : Option (Bor A)) → is_some (option_copied r) ≡ is_some r
is_some-copied None = refl
is_some-copied (Some x) = refl
