-- The holders of one thing, changed at one transaction, and the least other among them.
use Rattle.std.proofs.Common.{◌≡◌, ◌≢◌, ℕ, zero, suc, ◌+◌, ◌<◌, ◌≤◌, ◌==◌, ◌&&◌, nat_lt, true, false, cond, T, ◌⊎◌, inl, inr, List, [], ◌∷◌, Option, Some, None, unwrap_or, Less, Equal, Greater, refl, sym, ap, subst, ◌∙◌, arith}
use Rattle.std.proofs.lemmas.Bool.{eqb-true}
use Rattle.std.proofs.lemmas.Bool.Decides.{nat_tests}
use Rattle.std.proofs.lemmas.Option.{none-some, same_Some}
use Rattle.std.specs.Cmp.{nat_cmp_total}
use Rattle.std.specs.FinMap.{nat_cmp-IsAntisymmetric}
use Rattle.std.specs.FinMap.Entries.{find, is_sorted, below_all}
use Rattle.std.specs.Ordering.{eq_by_cmp, is_lt, nat_cmp}
use Rattle.cg_maps.specs.FiniteMap.{from_entries, get, set_at}
use Rattle.cg_maps.proofs.Maps as maps
use Rattle.cg_maps.proofs.Sets.{tied_is_equal}
use Rattle.cg_maps.proofs.Tests.{and_first, and_second}
use Rattle.cg_locks.specs.Holders.{Counts, held_by, lesser_of, one, IsLeast, IsLeastOther, IsOtherHolder, IsPositive}
use Rattle.cg_locks.proofs.Summed.{below_less, none_below}

-- ---- one transaction

pub held_set : (C : Counts) (t : ℕ) (o : Option ℕ) (u : ℕ) → held_by (set_at C t o) u ≡ cond (u == t) (unwrap_or o 0) (held_by C u)
held_set C t o u =
    ap (λ r. unwrap_or r 0) (maps.get-set_at nat_cmp_total nat_cmp-IsAntisymmetric C t o u)
    ∙ ap (λ b. unwrap_or (cond b o (get C u)) 0) (tied_is_equal u t)
    ∙ elim (u == t) as (λ b. unwrap_or (cond b o (get C u)) 0 ≡ cond b (unwrap_or o 0) (held_by C u)) [ true ↦ refl | false ↦ refl ]

pub once_more : (C D : Counts) (t n : ℕ) → D ≡ set_at C t (Some n) → n ≡ held_by C t + 1 → (u : ℕ) → held_by D u ≡ held_by C u + one (u == t)
once_more C D t n e is u =
    ap (λ M. held_by M u) e ∙ held_set C t (Some n) u
    ∙ elim (u == t) as (λ b. (u == t) ≡ b → cond b n (held_by C u) ≡ held_by C u + one b) [
      | true ↦ λ p. let same : held_by C u ≡ held_by C t = ap (held_by C) (eqb-true u t p) in omega (arith, same, is)
      | false ↦ λ p. omega arith
    ] refl

pub once_less : (C D : Counts) (t : ℕ) (o : Option ℕ) → D ≡ set_at C t o → held_by C t ≡ unwrap_or o 0 + 1 → (u : ℕ) → held_by C u ≡ held_by D u + one (u == t)
once_less C D t o e is u =
    let after : held_by D u ≡ cond (u == t) (unwrap_or o 0) (held_by C u) = ap (λ M. held_by M u) e ∙ held_set C t o u in
    ((elim (u == t) as (λ b. (u == t) ≡ b → held_by C u ≡ cond b (unwrap_or o 0) (held_by C u) + one b) [
      | true ↦ λ p. let same : held_by C u ≡ held_by C t = ap (held_by C) (eqb-true u t p) in omega (arith, same, is)
      | false ↦ λ p. omega arith
    ] refl) ∙ ap (λ n. n + one (u == t)) (sym after))

pub positive_set : (C D : Counts) (t : ℕ) (o : Option ℕ) → D ≡ set_at C t o → IsPositive C → ((n : ℕ) → o ≡ Some n → 0 < n) → IsPositive D
positive_set C D t o e h k = subst IsPositive (sym e) (λ u n is.
    elim (eq_by_cmp nat_cmp u t) as (λ b. cond b o (get C u) ≡ Some n → 0 < n) [ true ↦ k n | false ↦ h u n ] (sym (maps.get-set_at nat_cmp_total nat_cmp-IsAntisymmetric C t o u) ∙ is))

-- ---- the least other

-- another than t is found among those that are left where it is found at all
pub record IsLeft (t : ℕ) (C : Counts) (left : List (ℕ × ℕ)) : Type 0 where
  pub sorted : T (is_sorted nat_cmp left)
  pub same : (v : ℕ) → v ≢ t → find nat_cmp v left ≡ get C v

pub all_left : (t : ℕ) (C : Counts) (all left : List (ℕ × ℕ)) → left ≡ all → from_entries nat_cmp all ≡ C → T (is_sorted nat_cmp all) → IsLeft t C left
all_left t C all left is view sorted = record {
  sorted = subst (λ xs. T (is_sorted nat_cmp xs)) (sym is) sorted;
  same = λ v ne. ap (find nat_cmp v) is ∙ sym (maps.get-from_entries nat_cmp_total nat_cmp-IsAntisymmetric all v) ∙ ap (λ M. get M v) view;
}

module _ (t : ℕ) (C : Counts) (left : List (ℕ × ℕ)) (h : IsLeft t C left) where
  not_held : (v : ℕ) → v ≢ t → find nat_cmp v left ≡ None → 0 < held_by C v → ⊥
  not_held v ne none low =
      let zero : held_by C v ≡ 0 = ap (λ r. unwrap_or r 0) (sym (h.same v ne) ∙ none) in
      omega (arith, zero, low)

  pub none_found : left ≡ [] → IsLeastOther t (held_by C) None
  none_found is = record {
    some = λ u s. absurd (none-some u s);
    least = λ u s. absurd (none-some u s);
    none = λ _ v w. not_held v w.0 (ap (find nat_cmp v) is) w.1;
  }

  module _ (e : ℕ × ℕ) (rest : List (ℕ × ℕ)) (is : left ≡ e ∷ rest) where
    in_order : T (is_sorted nat_cmp (e ∷ rest))
    in_order = subst (λ xs. T (is_sorted nat_cmp xs)) is h.sorted

    pub passed_over : e.0 ≡ t → IsLeft t C rest
    passed_over own = record {
      sorted = and_second _ _ in_order;
      same = λ v ne. ap (λ b. cond b (Some e.1) (find nat_cmp v rest)) (sym (maps.apart nat_cmp_total nat_cmp-IsAntisymmetric v e.0 (λ x. ne (x ∙ own)))) ∙ ap (find nat_cmp v) (sym is) ∙ h.same v ne;
    }

    below_first : (v : ℕ) → nat_lt v e.0 ≡ true → T (below_all nat_cmp v (e ∷ rest))
    below_first v p =
        let less : nat_cmp v e.0 ≡ Less = ap (λ b. cond b Less (cond (v == e.0) Equal Greater)) p in
        subst (λ r. T (is_lt r && below_all nat_cmp v rest)) (sym less) (below_less nat_cmp_total nat_cmp-IsAntisymmetric v e.0 rest less (and_first _ _ in_order))

    pub least_found : IsPositive C → e.0 ≢ t → IsLeastOther t (held_by C) (Some e.0)
    least_found positive ne =
        let here : find nat_cmp e.0 left ≡ Some e.1 = ap (find nat_cmp e.0) is ∙ ap (λ b. cond b (Some e.1) (find nat_cmp e.0 rest)) (maps.here nat_cmp_total nat_cmp-IsAntisymmetric e.0) in
        let there : get C e.0 ≡ Some e.1 = sym (h.same e.0 ne) ∙ here in
        let low : 0 < e.1 = positive e.0 e.1 there in
        let count : held_by C e.0 ≡ e.1 = ap (λ r. unwrap_or r 0) there in
        record {
          some = λ u s. subst (IsOtherHolder t (held_by C)) (same_Some e.0 u s) (ne, omega (arith, low, count));
          least = λ u s v w. subst (λ x. x ≤ v) (same_Some e.0 u s) (elim (nat_lt v e.0) as (λ b. nat_lt v e.0 ≡ b → e.0 ≤ v) [
            | true ↦ λ p. absurd (not_held v w.0 (ap (find nat_cmp v) is ∙ none_below nat_cmp_total nat_cmp-IsAntisymmetric v (e ∷ rest) (below_first v p)) w.1)
            | false ↦ λ p. grind (arith, nat_tests, p)
          ] refl);
          none = λ s. absurd (none-some e.0 (sym s));
        }

-- nobody is left to be found
pub no_holder : (t : ℕ) (held : ℕ → ℕ) → ((u : ℕ) → held u ≡ 0) → IsLeastOther t held None
no_holder t held none = record {
  some = λ u s. absurd (none-some u s);
  least = λ u s. absurd (none-some u s);
  none = λ _ v w. let low : 0 < held v = w.1 in let zero = none v in omega (arith, low, zero);
}

-- ---- the lesser of two

module _ (P Q R : ℕ → Type 0) (either : (u : ℕ) → R u → P u ⊎ Q u) (left : (u : ℕ) → P u → R u) (right : (u : ℕ) → Q u → R u) where
  pub least_of_both : (r s : Option ℕ) → IsLeast P r → IsLeast Q s → IsLeast R (lesser_of r s)
  least_of_both None s a b = record {
    some = λ u e. right u (b.some u e);
    least = λ u e v w. elim (either v w) [ inl x ↦ absurd (a.none refl v x) | inr y ↦ b.least u e v y ];
    none = λ e v w. elim (either v w) [ inl x ↦ a.none refl v x | inr y ↦ b.none e v y ];
  }
  least_of_both (Some n) None a b = record {
    some = λ u e. left u (a.some u e);
    least = λ u e v w. elim (either v w) [ inl x ↦ a.least u e v x | inr y ↦ absurd (b.none refl v y) ];
    none = λ e. absurd (none-some n (sym e));
  }
  least_of_both (Some n) (Some k) a b = elim (nat_lt k n) as (λ c. nat_lt k n ≡ c → IsLeast R (cond c (Some k) (Some n))) [
    | true ↦ λ p.
        let low : k < n = grind (arith, nat_tests, p) in
        record {
          some = λ u e. right u (b.some u e);
          least = λ u e v w.
              let is : k ≡ u = same_Some k u e in
              elim (either v w) [ inl x ↦ (let m : n ≤ v = a.least n refl v x in omega (arith, m, low, is)) | inr y ↦ b.least u e v y ];
          none = λ e. absurd (none-some k (sym e));
        }
    | false ↦ λ p.
        let low : n ≤ k = grind (arith, nat_tests, p) in
        record {
          some = λ u e. left u (a.some u e);
          least = λ u e v w.
              let is : n ≡ u = same_Some n u e in
              elim (either v w) [ inl x ↦ a.least u e v x | inr y ↦ (let m : k ≤ v = b.least k refl v y in omega (arith, m, low, is)) ];
          none = λ e. absurd (none-some n (sym e));
        }
  ] refl

pub one_of_two : (a b : ℕ) → 0 < a + b → (0 < a) ⊎ (0 < b)
one_of_two zero b low = inr (omega (arith, low))
one_of_two (suc a) b low = inl (omega arith)

-- the least of those that hold something by f or by g
pub least_of_sum : (t : ℕ) (f g : ℕ → ℕ) (r s : Option ℕ) → IsLeastOther t f r → IsLeastOther t g s → IsLeastOther t (λ u. f u + g u) (lesser_of r s)
least_of_sum t f g r s a b =
    least_of_both (IsOtherHolder t f) (IsOtherHolder t g) (IsOtherHolder t (λ u. f u + g u))
    (λ u w. elim (one_of_two (f u) (g u) w.1) [ inl x ↦ inl (w.0, x) | inr y ↦ inr (w.0, y) ])
    (λ u w. let low : 0 < f u = w.1 in (w.0, omega (arith, low)))
    (λ u w. let low : 0 < g u = w.1 in (w.0, omega (arith, low)))
    r s a b

-- ---- by what else is as true

pub least_as : (P Q : ℕ → Type 0) (r : Option ℕ) → ((u : ℕ) → P u → Q u) → ((u : ℕ) → Q u → P u) → IsLeast P r → IsLeast Q r
least_as P Q r to from h = record {
  some = λ u e. to u (h.some u e);
  least = λ u e v w. h.least u e v (from v w);
  none = λ e v w. h.none e v (from v w);
}

pub least_alike : (t : ℕ) (f g : ℕ → ℕ) (r : Option ℕ) → ((u : ℕ) → f u ≡ g u) → IsLeastOther t f r → IsLeastOther t g r
least_alike t f g r same =
    least_as (IsOtherHolder t f) (IsOtherHolder t g) r (λ u w. (w.0, subst (λ n. 0 < n) (same u) w.1)) (λ u w. (w.0, subst (λ n. 0 < n) (sym (same u)) w.1))

-- where something is held by f exactly where it is by g
pub least_seen : (t : ℕ) (f g : ℕ → ℕ) (r : Option ℕ) → ((u : ℕ) → 0 < f u → 0 < g u) → ((u : ℕ) → 0 < g u → 0 < f u) → IsLeastOther t f r → IsLeastOther t g r
least_seen t f g r to from h = least_as (IsOtherHolder t f) (IsOtherHolder t g) r (λ u w. (w.0, to u w.1)) (λ u w. (w.0, from u w.1)) h

-- no other holds anything by g, where each that does holds something by f
pub none_seen : (t : ℕ) (f g : ℕ → ℕ) → ((u : ℕ) → 0 < g u → 0 < f u) → IsLeastOther t f None → IsLeastOther t g None
none_seen t f g from h = record {
  some = λ u e. absurd (none-some u e);
  least = λ u e. absurd (none-some u e);
  none = λ e v w. h.none refl v (w.0, from v w.1);
}

-- a sum of two, each of which is seen where the other is
pub seen_in_sum : (x y r s : ℕ) → (0 < x → 0 < y) → (0 < r → 0 < s) → 0 < x + r → 0 < y + s
seen_in_sum x y r s f g low = elim (one_of_two x r low) [ inl l ↦ (let z = f l in omega (arith, z)) | inr l ↦ (let z = g l in omega (arith, z)) ]
