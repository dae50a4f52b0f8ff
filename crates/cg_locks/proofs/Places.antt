-- A short list of numbers, each with a count, changed at the place of one of them.
use Rattle.std.proofs.Common.{◌≡◌, ◌≢◌, ℕ, suc, ◌+◌, ◌<◌, ◌≤◌, ◌==◌, ◌++◌, nat_lt, Bool, true, false, cond, not, T, ◌⊎◌, inl, inr, List, [], ◌∷◌, Option, Some, None, unwrap_or, drop, length, take, Ordering, Less, Equal, Greater, refl, sym, ap, subst, ◌∙◌, arith}
use Rattle.std.proofs.Math.ListN.{set}
use Rattle.std.proofs.lemmas.Bool.{eq-eqb}
use Rattle.std.proofs.lemmas.Bool.Decides.{nat_tests}
use Rattle.std.proofs.lemmas.Option.{none-some}
use Rattle.std.specs.Cmp.{nat_cmp_total, eq_by_cmp_equiv}
use Rattle.std.specs.FinMap.{nat_cmp-IsAntisymmetric}
use Rattle.std.specs.FinMap.Entries.{find, put, below_all, is_sorted, is_sorted-put, is_sorted-where_key, by_order, find-put, find-where_key}
use Rattle.std.specs.Ordering.{eq_by_cmp, is_eq, is_lt, nat_cmp}
use Rattle.cg_maps.specs.FiniteMap.{from_entries, set_at}
use Rattle.cg_maps.proofs.Maps as maps
use Rattle.cg_maps.proofs.Tests.{and_first, and_second}
use Rattle.cg_locks.specs.Holders.{Counts, held_by, place_of, without, IsPositive}
use Rattle.cg_locks.proofs.Summed.{below_less, none_below}

-- ---- two numbers in order

abbrev Ordered : ℕ → ℕ → Type 0
Ordered t x = ((nat_cmp t x ≡ Less) × (nat_lt x t ≡ false)) ⊎ (((nat_cmp t x ≡ Equal) × (nat_lt x t ≡ false) × (t ≡ x)) ⊎ ((nat_cmp t x ≡ Greater) × (nat_lt x t ≡ true)))

ordered : (t x : ℕ) → Ordered t x
ordered t x = elim (nat_lt t x) as (λ b. nat_lt t x ≡ b → ((cond b Less (cond (t == x) Equal Greater) ≡ Less) × (nat_lt x t ≡ false)) ⊎ (((cond b Less (cond (t == x) Equal Greater) ≡ Equal) × (nat_lt x t ≡ false) × (t ≡ x)) ⊎ ((cond b Less (cond (t == x) Equal Greater) ≡ Greater) × (nat_lt x t ≡ true)))) [
  | true ↦ λ low.
      let l : t < x = grind (arith, nat_tests, low) in
      let no : nat_lt x t ≡ false = grind (arith, nat_tests, l) in
      inl (refl, no)
  | false ↦ λ high. (elim (t == x) as (λ c. (t == x) ≡ c → ((cond c Equal Greater ≡ Less) × (nat_lt x t ≡ false)) ⊎ (((cond c Equal Greater ≡ Equal) × (nat_lt x t ≡ false) × (t ≡ x)) ⊎ ((cond c Equal Greater ≡ Greater) × (nat_lt x t ≡ true)))) [
    | true ↦ λ same.
        let is : t ≡ x = grind (arith, nat_tests, same) in
        let no : nat_lt x t ≡ false = grind (arith, nat_tests, is) in
        inr (inl (refl, no, is))
    | false ↦ λ other.
        let h : x ≤ t = grind (arith, nat_tests, high) in
        let ne : t ≢ x = (λ e. true_false (sym (eq-eqb t x e) ∙ other)) in
        let l : x < t = omega (arith, h, ne) in
        let yes : nat_lt x t ≡ true = grind (arith, nat_tests, l) in
        inr (inr (refl, yes))
  ] refl)
] refl
  where
    true_false : true ≡ false → ⊥
    true_false e = cc

module _ (t v : ℕ) where
  -- a new number at its place
  pub put_in : (es : List (ℕ × ℕ)) → find nat_cmp t es ≡ None → take (place_of t es) es ++ (t, v) ∷ drop (place_of t es) es ≡ put nat_cmp t v es
  put_in [] none = refl
  put_in (e ∷ es) none = elim (ordered t e.0) [
    | inl l ↦
        ap (λ b. take (cond b (suc (place_of t es)) 0) (e ∷ es) ++ (t, v) ∷ drop (cond b (suc (place_of t es)) 0) (e ∷ es)) l.1
        ∙ sym (ap (λ r. by_order r ((t, v) ∷ e ∷ es) ((e.0, v) ∷ es) (e ∷ put nat_cmp t v es)) l.0)
    | inr o ↦ elim o [
      | inl s ↦ absurd (none-some e.1 (sym none ∙ ap (λ r. cond (is_eq r) (Some e.1) (find nat_cmp t es)) s.0))
      | inr g ↦
          ap (λ b. take (cond b (suc (place_of t es)) 0) (e ∷ es) ++ (t, v) ∷ drop (cond b (suc (place_of t es)) 0) (e ∷ es)) g.1
          ∙ ap (λ xs. e ∷ xs) (put_in es (sym (ap (λ r. cond (is_eq r) (Some e.1) (find nat_cmp t es)) g.0) ∙ none))
          ∙ sym (ap (λ r. by_order r ((t, v) ∷ e ∷ es) ((e.0, v) ∷ es) (e ∷ put nat_cmp t v es)) g.0)
    ]
  ]

  -- another count for a number that is there
  pub put_over : (es : List (ℕ × ℕ)) (n : ℕ) → T (is_sorted nat_cmp es) → find nat_cmp t es ≡ Some n → set es (place_of t es) (t, v) ≡ put nat_cmp t v es
  put_over [] n h some = absurd (none-some n some)
  put_over (e ∷ es) n h some = elim (ordered t e.0) [
    | inl l ↦ absurd (not_there l.0)
    | inr o ↦ elim o [
      | inl s ↦
          ap (λ b. set (e ∷ es) (cond b (suc (place_of t es)) 0) (t, v)) s.1
          ∙ ap (λ x. (x, v) ∷ es) s.2
          ∙ sym (ap (λ r. by_order r ((t, v) ∷ e ∷ es) ((e.0, v) ∷ es) (e ∷ put nat_cmp t v es)) s.0)
      | inr g ↦
          ap (λ b. set (e ∷ es) (cond b (suc (place_of t es)) 0) (t, v)) g.1
          ∙ ap (λ xs. e ∷ xs) (put_over es n (and_second _ _ h) (sym (ap (λ r. cond (is_eq r) (Some e.1) (find nat_cmp t es)) g.0) ∙ some))
          ∙ sym (ap (λ r. by_order r ((t, v) ∷ e ∷ es) ((e.0, v) ∷ es) (e ∷ put nat_cmp t v es)) g.0)
    ]
  ]
    where
      not_there : nat_cmp t e.0 ≡ Less → ⊥
      not_there less =
          let none : find nat_cmp t es ≡ None = none_below nat_cmp_total nat_cmp-IsAntisymmetric t es (below_less nat_cmp_total nat_cmp-IsAntisymmetric t e.0 es less (and_first _ _ h)) in
          none-some n (sym (ap (λ r. cond (is_eq r) (Some e.1) (find nat_cmp t es)) less ∙ none) ∙ some)

module _ (t : ℕ) where
  pub without_any : (es : List (ℕ × ℕ)) → T (below_all nat_cmp t es) → without t es ≡ es
  without_any [] h = refl
  without_any (e ∷ es) h =
      ap (λ r. cond (not (is_eq r)) (e ∷ without t es) (without t es)) (less_of (nat_cmp t e.0) (and_first _ _ h)) ∙ ap (λ xs. e ∷ xs) (without_any es (and_second _ _ h))
    where
      less_of : (r : Ordering) → T (is_lt r) → r ≡ Less
      less_of Less p = refl
      less_of Equal p = absurd p
      less_of Greater p = absurd p

  -- a number taken out of its place
  pub taken_out : (es : List (ℕ × ℕ)) (n : ℕ) → T (is_sorted nat_cmp es) → find nat_cmp t es ≡ Some n → take (place_of t es) es ++ drop (suc (place_of t es)) es ≡ without t es
  taken_out [] n h some = absurd (none-some n some)
  taken_out (e ∷ es) n h some = elim (ordered t e.0) [
    | inl l ↦ absurd (not_there l.0)
    | inr o ↦ elim o [
      | inl s ↦
          ap (λ b. take (cond b (suc (place_of t es)) 0) (e ∷ es) ++ drop (suc (cond b (suc (place_of t es)) 0)) (e ∷ es)) s.1
          ∙ sym (ap (λ r. cond (not (is_eq r)) (e ∷ without t es) (without t es)) s.0 ∙ without_any es (subst (λ x. T (below_all nat_cmp x es)) (sym s.2) (and_first _ _ h)))
      | inr g ↦
          ap (λ b. take (cond b (suc (place_of t es)) 0) (e ∷ es) ++ drop (suc (cond b (suc (place_of t es)) 0)) (e ∷ es)) g.1
          ∙ ap (λ xs. e ∷ xs) (taken_out es n (and_second _ _ h) (sym (ap (λ r. cond (is_eq r) (Some e.1) (find nat_cmp t es)) g.0) ∙ some))
          ∙ sym (ap (λ r. cond (not (is_eq r)) (e ∷ without t es) (without t es)) g.0)
    ]
  ]
    where
      not_there : nat_cmp t e.0 ≡ Less → ⊥
      not_there less =
          let none : find nat_cmp t es ≡ None = none_below nat_cmp_total nat_cmp-IsAntisymmetric t es (below_less nat_cmp_total nat_cmp-IsAntisymmetric t e.0 es less (and_first _ _ h)) in
          none-some n (sym (ap (λ r. cond (is_eq r) (Some e.1) (find nat_cmp t es)) less ∙ none) ∙ some)

  -- what is there stands before the end
  pub there : (es : List (ℕ × ℕ)) (n : ℕ) → T (is_sorted nat_cmp es) → find nat_cmp t es ≡ Some n → place_of t es < length es
  there [] n h some = absurd (none-some n some)
  there (e ∷ es) n h some = elim (nat_lt e.0 t) as (λ b. nat_lt e.0 t ≡ b → cond b (suc (place_of t es)) 0 < suc (length es)) [
    | true ↦ λ low.
        let l : e.0 < t = grind (arith, nat_tests, low) in
        let other : eq_by_cmp nat_cmp t e.0 ≡ false = maps.apart nat_cmp_total nat_cmp-IsAntisymmetric t e.0 (λ e. omega (arith, l, e)) in
        let rest : place_of t es < length es = there es n (and_second _ _ h) (sym (ap (λ b. cond b (Some e.1) (find nat_cmp t es)) other) ∙ some) in
        omega (arith, rest)
    | false ↦ λ high. omega arith
  ] refl

-- ---- a place sought from the front

-- the entries before those that are left, so many, have lower numbers
pub record IsPassed (t : ℕ) (es : List (ℕ × ℕ)) (k : ℕ) (left : List (ℕ × ℕ)) : Type 0 where
  pub sorted : T (is_sorted nat_cmp left)
  pub same : find nat_cmp t es ≡ find nat_cmp t left
  pub place : place_of t es ≡ k + place_of t left

module _ (t : ℕ) (es : List (ℕ × ℕ)) (k : ℕ) (left : List (ℕ × ℕ)) (h : IsPassed t es k left) where
  -- none is left
  pub last_place : left ≡ [] → k ≡ place_of t es
  last_place is = let a = h.place in let b : place_of t left ≡ 0 = ap (place_of t) is in omega (arith, a, b)

  pub never_found : left ≡ [] → 0 ≡ unwrap_or (find nat_cmp t es) 0
  never_found is = sym (ap (λ r. unwrap_or r 0) (h.same ∙ ap (find nat_cmp t) is))

  module _ (e : ℕ × ℕ) (rest : List (ℕ × ℕ)) (is : left ≡ e ∷ rest) where
    in_order : T (is_sorted nat_cmp (e ∷ rest))
    in_order = subst (λ xs. T (is_sorted nat_cmp xs)) is h.sorted

    pub place_here : t ≤ e.0 → k ≡ place_of t es
    place_here low =
        let a = h.place in
        let no : nat_lt e.0 t ≡ false = grind (arith, nat_tests, low) in
        let b : place_of t left ≡ 0 = ap (place_of t) is ∙ ap (λ x. cond x (suc (place_of t rest)) 0) no in
        omega (arith, a, b)

    pub found_here : e.0 ≡ t → e.1 ≡ unwrap_or (find nat_cmp t es) 0
    found_here own =
        let here : eq_by_cmp nat_cmp t e.0 ≡ true = subst (λ x. eq_by_cmp nat_cmp x e.0 ≡ true) own (maps.here nat_cmp_total nat_cmp-IsAntisymmetric e.0) in
        sym (ap (λ r. unwrap_or r 0) (h.same ∙ ap (find nat_cmp t) is ∙ ap (λ b. cond b (Some e.1) (find nat_cmp t rest)) here))

    pub not_found : t < e.0 → 0 ≡ unwrap_or (find nat_cmp t es) 0
    not_found low =
        let l : nat_lt t e.0 ≡ true = grind (arith, nat_tests, low) in
        let less : nat_cmp t e.0 ≡ Less = ap (λ b. cond b Less (cond (t == e.0) Equal Greater)) l in
        let none : find nat_cmp t rest ≡ None = none_below nat_cmp_total nat_cmp-IsAntisymmetric t rest (below_less nat_cmp_total nat_cmp-IsAntisymmetric t e.0 rest less (and_first _ _ in_order)) in
        sym (ap (λ r. unwrap_or r 0) (h.same ∙ ap (find nat_cmp t) is ∙ ap (λ r. cond (is_eq r) (Some e.1) (find nat_cmp t rest)) less ∙ none))

    pub one_passed : e.0 < t → IsPassed t es (k + 1) rest
    one_passed low =
        let a = h.place in
        let yes : nat_lt e.0 t ≡ true = grind (arith, nat_tests, low) in
        let b : place_of t left ≡ suc (place_of t rest) = ap (place_of t) is ∙ ap (λ x. cond x (suc (place_of t rest)) 0) yes in
        let other : eq_by_cmp nat_cmp t e.0 ≡ false = maps.apart nat_cmp_total nat_cmp-IsAntisymmetric t e.0 (λ same. omega (arith, low, same)) in
        record {
          sorted = and_second _ _ in_order;
          same = h.same ∙ ap (find nat_cmp t) is ∙ ap (λ x. cond x (Some e.1) (find nat_cmp t rest)) other;
          place = omega (arith, a, b);
        }

-- ---- as a map

-- who holds it has a number there
pub some_there : (r : Option ℕ) → 0 < unwrap_or r 0 → (n : ℕ) × (r ≡ Some n)
some_there None low = absurd (omega (arith, low))
some_there (Some n) low = (n, refl)

pub held_there : (es : List (ℕ × ℕ)) (C : Counts) (t : ℕ) → from_entries nat_cmp es ≡ C → unwrap_or (find nat_cmp t es) 0 ≡ held_by C t
held_there es C t view = ap (λ r. unwrap_or r 0) (sym (maps.get-from_entries nat_cmp_total nat_cmp-IsAntisymmetric es t)) ∙ ap (λ M. held_by M t) view

view_by : (es fs : List (ℕ × ℕ)) (t : ℕ) (w : Option ℕ) → ((q : ℕ) → find nat_cmp q fs ≡ cond (eq_by_cmp nat_cmp q t) w (find nat_cmp q es)) → from_entries nat_cmp fs ≡ set_at (from_entries nat_cmp es) t w
view_by es fs t w h = maps.same_map nat_cmp_total nat_cmp-IsAntisymmetric _ _ (λ q.
    maps.get-from_entries nat_cmp_total nat_cmp-IsAntisymmetric fs q ∙ h q
    ∙ ap (cond (eq_by_cmp nat_cmp q t) w) (sym (maps.get-from_entries nat_cmp_total nat_cmp-IsAntisymmetric es q))
    ∙ sym (maps.get-set_at nat_cmp_total nat_cmp-IsAntisymmetric (from_entries nat_cmp es) t w q))

-- entries of which one has another count, or is new
pub record IsWritten (es fs : List (ℕ × ℕ)) (t v : ℕ) : Type 0 where
  pub map : from_entries nat_cmp fs ≡ set_at (from_entries nat_cmp es) t (Some v)
  pub sorted : T (is_sorted nat_cmp fs)

pub put_writes : (es fs : List (ℕ × ℕ)) (t v : ℕ) → T (is_sorted nat_cmp es) → fs ≡ put nat_cmp t v es → IsWritten es fs t v
put_writes es fs t v h e = record {
  map = view_by es fs t (Some v) (λ q. ap (find nat_cmp q) e ∙ find-put nat_cmp nat_cmp_total q t v es);
  sorted = subst (λ xs. T (is_sorted nat_cmp xs)) (sym e) (is_sorted-put nat_cmp nat_cmp_total t v es h);
}

pub over_is_put : (es : List (ℕ × ℕ)) (t v k : ℕ) → T (is_sorted nat_cmp es) → 0 < unwrap_or (find nat_cmp t es) 0 → k ≡ place_of t es → set es k (t, v) ≡ put nat_cmp t v es
over_is_put es t v k h low at = let some = some_there (find nat_cmp t es) low in ap (λ n. set es n (t, v)) at ∙ put_over t v es some.0 h some.1

pub new_is_put : (es : List (ℕ × ℕ)) (t v k : ℕ) → IsPositive (from_entries nat_cmp es) → unwrap_or (find nat_cmp t es) 0 ≡ 0 → k ≡ place_of t es → take k es ++ (t, v) ∷ drop k es ≡ put nat_cmp t v es
new_is_put es t v k positive none at = ap (λ n. take n es ++ (t, v) ∷ drop n es) at ∙ put_in t v es (absent (find nat_cmp t es) refl none)
  where
    absent : (r : Option ℕ) → find nat_cmp t es ≡ r → unwrap_or r 0 ≡ 0 → find nat_cmp t es ≡ None
    absent None is z = is
    absent (Some n) is z = let low : 0 < n = positive t n (maps.get-from_entries nat_cmp_total nat_cmp-IsAntisymmetric es t ∙ is) in absurd (omega (arith, low, z))

pub placed : (es : List (ℕ × ℕ)) (t k : ℕ) → T (is_sorted nat_cmp es) → 0 < unwrap_or (find nat_cmp t es) 0 → k ≡ place_of t es → k < length es
placed es t k h low at =
    let some = some_there (find nat_cmp t es) low in
    let before = there t es some.0 h some.1 in
    omega (arith, at, before)

pub out_is_without : (es : List (ℕ × ℕ)) (t k : ℕ) → T (is_sorted nat_cmp es) → 0 < unwrap_or (find nat_cmp t es) 0 → k ≡ place_of t es → take k es ++ drop (suc k) es ≡ without t es
out_is_without es t k h low at = let some = some_there (find nat_cmp t es) low in ap (λ n. take n es ++ drop (suc n) es) at ∙ taken_out t es some.0 h some.1

-- entries of which one is gone
pub record IsDropped (es fs : List (ℕ × ℕ)) (t : ℕ) : Type 0 where
  pub map : from_entries nat_cmp fs ≡ set_at (from_entries nat_cmp es) t None
  pub sorted : T (is_sorted nat_cmp fs)

pub without_drops : (es fs : List (ℕ × ℕ)) (t : ℕ) → T (is_sorted nat_cmp es) → fs ≡ without t es → IsDropped es fs t
without_drops es fs t h is = record {
  map = view_by es fs t None (λ q.
      ap (find nat_cmp q) is
      ∙ find-where_key nat_cmp (λ x. not (eq_by_cmp nat_cmp t x)) q (λ x same. ap (λ y. not (eq_by_cmp nat_cmp t y)) (sym (nat_cmp-IsAntisymmetric q x same))) es
      ∙ turned (eq_by_cmp nat_cmp t q) (find nat_cmp q es) ∙ ap (λ b. cond b None (find nat_cmp q es)) ((eq_by_cmp_equiv nat_cmp_total).symm t q));
  sorted = subst (λ xs. T (is_sorted nat_cmp xs)) (sym is) (is_sorted-where_key nat_cmp (λ x. not (eq_by_cmp nat_cmp t x)) es h);
}
  where
    turned : (b : Bool) (x : Option ℕ) → cond (not b) x None ≡ cond b None x
    turned true x = refl
    turned false x = refl
