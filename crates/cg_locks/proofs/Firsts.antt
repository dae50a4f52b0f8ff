-- The first holder and the others, as one list that changes.
use Rattle.std.proofs.Common.{◌≡◌, ◌≢◌, ℕ, ◌+◌, ◌<◌, ◌≤◌, ◌==◌, ◌++◌, nat_lt, true, false, cond, not, T, inl, inr, List, [], ◌∷◌, Option, Some, None, option_map, unwrap_or, drop, slice_get, take, Ordering, Less, Equal, Greater, refl, sym, ap, subst, ◌∙◌, arith, true≢false}
use Rattle.std.proofs.lemmas.Bool.{cases_eq, eq-eqb}
use Rattle.std.proofs.lemmas.Bool.Decides.{nat_tests}
use Rattle.std.proofs.lemmas.Option.{none-some, same_Some}
use Rattle.std.specs.Cmp.{nat_cmp_total}
use Rattle.std.specs.FinMap.{nat_cmp-IsAntisymmetric}
use Rattle.std.specs.FinMap.Entries.{find, put, below_all, is_sorted, by_order}
use Rattle.std.specs.Ordering.{is_eq, nat_cmp}
use Rattle.cg_maps.specs.FiniteMap.{from_entries, set_at}
use Rattle.cg_maps.proofs.Maps as maps
use Rattle.cg_maps.proofs.Tests.{and_first, and_second, less}
use Rattle.cg_locks.specs.Holders.{Counts, all_holders, held_by, one, without, AreHolders, IsHolderList, IsLeastOther, IsPositive}
use Rattle.cg_locks.proofs.Counts.{all_left, least_found, none_found, once_less, once_more, passed_over, positive_set, IsLeft}
use Rattle.cg_locks.proofs.Places.{held_there, put_writes, without_any, without_drops, IsDropped, IsWritten}
use Rattle.cg_locks.proofs.Summed.{below_less, none_below}

-- ---- two numbers in order

in_less : (t x : ℕ) → t < x → nat_cmp t x ≡ Less
in_less t x low = let l : nat_lt t x ≡ true = grind (arith, nat_tests, low) in ap (λ b. cond b Less (cond (t == x) Equal Greater)) l

in_equal : (t x : ℕ) → t ≡ x → nat_cmp t x ≡ Equal
in_equal t x same =
    let l : nat_lt t x ≡ false = grind (arith, nat_tests, same) in
    ap (λ b. cond b Less (cond (t == x) Equal Greater)) l ∙ ap (λ b. cond b Equal Greater) (eq-eqb t x same)

in_greater : (t x : ℕ) → x < t → nat_cmp t x ≡ Greater
in_greater t x low =
    let l : nat_lt t x ≡ false = grind (arith, nat_tests, low) in
    let e : (t == x) ≡ false = grind (arith, nat_tests, low) in
    ap (λ b. cond b Less (cond (t == x) Equal Greater)) l ∙ ap (λ b. cond b Equal Greater) e

-- ---- the list

none_first : (f n : ℕ) (es : List (ℕ × ℕ)) → n ≡ 0 → all_holders f n es ≡ []
none_first f n es e = ap (λ b. cond b [] ((f, n) ∷ es)) (eq-eqb n 0 e)

some_first : (f n : ℕ) (es : List (ℕ × ℕ)) → 0 < n → all_holders f n es ≡ (f, n) ∷ es
some_first f n es low = let no : (n == 0) ≡ false = grind (arith, nat_tests, low) in ap (λ b. cond b [] ((f, n) ∷ es)) no

pub none_yet : (f : ℕ) (es : List (ℕ × ℕ)) → es ≡ [] → AreHolders f 0 es
none_yet f es none = record {
  list = record { sorted = tt; positive = λ u n is. absurd (none-some n (sym (maps.get-empty nat_cmp u) ∙ is)) };
  alone = λ _. none;
}

pub no_entry : (es : List (ℕ × ℕ)) → slice_get es 0 ≡ None → es ≡ []
no_entry [] none = refl
no_entry (x ∷ xs) none = absurd (none-some x (sym none))

-- a list, with its first entry apart
pub split : (es : List (ℕ × ℕ)) (e : ℕ × ℕ) (fs : List (ℕ × ℕ)) → IsHolderList es → slice_get es 0 ≡ Some e → fs ≡ take 0 es ++ drop 1 es → (0 < e.1) × (all_holders e.0 e.1 fs ≡ es)
split [] e fs h at is = absurd (none-some e at)
split (x ∷ xs) e fs h at is =
    let own : x ≡ e = same_Some x e at in
    let here : find nat_cmp x.0 (x ∷ xs) ≡ Some x.1 = ap (λ b. cond b (Some x.1) (find nat_cmp x.0 xs)) (maps.here nat_cmp_total nat_cmp-IsAntisymmetric x.0) in
    let low : 0 < x.1 = h.positive x.0 x.1 (maps.get-from_entries nat_cmp_total nat_cmp-IsAntisymmetric (x ∷ xs) x.0 ∙ here) in
    (subst (λ (y : ℕ × ℕ). 0 < y.1) own low, subst (λ (y : ℕ × ℕ). all_holders y.0 y.1 fs ≡ x ∷ xs) own (some_first x.0 x.1 fs low ∙ ap (λ ys. x ∷ ys) is))

module _ (f n : ℕ) (es : List (ℕ × ℕ)) (h : AreHolders f n es) where
  in_order : n ≢ 0 → T (is_sorted nat_cmp ((f, n) ∷ es))
  in_order some = subst (λ xs. T (is_sorted nat_cmp xs)) (some_first f n es (omega (arith, some))) h.list.sorted

  above : n ≢ 0 → T (below_all nat_cmp f es)
  above some = and_first _ _ (in_order some)

  pub rest_sorted : T (is_sorted nat_cmp es)
  rest_sorted = elim (cases_eq n 0) [
    | inl none ↦ subst (λ xs. T (is_sorted nat_cmp xs)) (sym (h.alone none)) tt
    | inr some ↦ and_second _ _ (in_order some)
  ]

  not_first : n ≢ 0 → (u m : ℕ) → find nat_cmp u es ≡ Some m → u ≢ f
  not_first some u m there same = none-some m (sym (none_below nat_cmp_total nat_cmp-IsAntisymmetric u es (subst (λ x. T (below_all nat_cmp x es)) (sym same) (above some))) ∙ there)

  rest_found : (u m : ℕ) → find nat_cmp u es ≡ Some m → find nat_cmp u (all_holders f n es) ≡ Some m
  rest_found u m there = elim (cases_eq n 0) [
    | inl none ↦ absurd (none-some m (sym (ap (find nat_cmp u) (h.alone none)) ∙ there))
    | inr some ↦
        ap (find nat_cmp u) (some_first f n es (omega (arith, some)))
        ∙ ap (λ b. cond b (Some n) (find nat_cmp u es)) (maps.apart nat_cmp_total nat_cmp-IsAntisymmetric u f (not_first some u m there)) ∙ there
  ]

  pub rest_list : IsHolderList es
  rest_list = record {
    sorted = rest_sorted;
    positive = λ u m is.
        h.list.positive u m
        (maps.get-from_entries nat_cmp_total nat_cmp-IsAntisymmetric (all_holders f n es) u ∙ rest_found u m (sym (maps.get-from_entries nat_cmp_total nat_cmp-IsAntisymmetric es u) ∙ is));
  }

  module _ (C : Counts) (view : from_entries nat_cmp (all_holders f n es) ≡ C) (t : ℕ) where
    -- ---- who holds it

    pub none_held : n ≡ 0 → held_by C t ≡ 0
    none_held none = sym (held_there (all_holders f n es) C t view) ∙ ap (λ xs. unwrap_or (find nat_cmp t xs) 0) (none_first f n es none)

    pub count_first : f ≡ t → n ≡ held_by C t
    count_first own = elim (cases_eq n 0) [
      | inl none ↦ none ∙ sym (none_held none)
      | inr some ↦
          sym (ap (λ xs. unwrap_or (find nat_cmp t xs) 0) (some_first f n es (omega (arith, some))) ∙ ap (λ r. unwrap_or (cond (is_eq r) (Some n) (find nat_cmp t es)) 0) (in_equal t f (sym own)))
          ∙ held_there (all_holders f n es) C t view
    ]

    pub count_other : f ≢ t → unwrap_or (find nat_cmp t es) 0 ≡ held_by C t
    count_other ne = elim (cases_eq n 0) [
      | inl none ↦ ap (λ xs. unwrap_or (find nat_cmp t xs) 0) (h.alone none) ∙ sym (none_held none)
      | inr some ↦
          sym (ap (λ xs. unwrap_or (find nat_cmp t xs) 0) (some_first f n es (omega (arith, some)))
          ∙ ap (λ b. unwrap_or (cond b (Some n) (find nat_cmp t es)) 0) (maps.apart nat_cmp_total nat_cmp-IsAntisymmetric t f (λ e. ne (sym e))))
          ∙ held_there (all_holders f n es) C t view
    ]

    pub count_before : n ≢ 0 → t < f → held_by C t ≡ 0
    count_before some low =
        let ne : f ≢ t = (λ e. omega (arith, e, low)) in
        sym (count_other ne) ∙ ap (λ r. unwrap_or r 0) (none_below nat_cmp_total nat_cmp-IsAntisymmetric t es (below_less nat_cmp_total nat_cmp-IsAntisymmetric t f es (in_less t f low) (above some)))

    pub some_held : 0 < held_by C t → n ≢ 0
    some_held low none = let z = none_held none in omega (arith, low, z)

    pub after_first : 0 < held_by C t → f ≢ t → f < t
    after_first low ne = elim (nat_lt t f) as (λ b. nat_lt t f ≡ b → f < t) [
      | true ↦ λ p. let before : t < f = grind (arith, nat_tests, p) in let z = count_before (some_held low) before in absurd (omega (arith, low, z))
      | false ↦ λ p. let high : f ≤ t = grind (arith, nat_tests, p) in omega (arith, high, ne)
    ] refl

    -- ---- the least other

    left : IsLeft t C (all_holders f n es)
    left = all_left t C (all_holders f n es) (all_holders f n es) refl view h.list.sorted

    positive : IsPositive C
    positive = subst IsPositive view h.list.positive

    pub nobody_else : n ≡ 0 → IsLeastOther t (held_by C) None
    nobody_else none = none_found t C (all_holders f n es) left (none_first f n es none)

    pub first_is_least : n ≢ 0 → f ≢ t → IsLeastOther t (held_by C) (Some f)
    first_is_least some ne = least_found t C (all_holders f n es) left (f, n) es (some_first f n es (omega (arith, some))) positive ne

    rest_left : n ≢ 0 → f ≡ t → IsLeft t C es
    rest_left some own = passed_over t C (all_holders f n es) left (f, n) es (some_first f n es (omega (arith, some))) own

    pub second_is_least : n ≢ 0 → f ≡ t → (e : ℕ × ℕ) → slice_get es 0 ≡ Some e → IsLeastOther t (held_by C) (Some e.0)
    second_is_least some own e at = by es refl at
      where
        by : (xs : List (ℕ × ℕ)) → es ≡ xs → slice_get xs 0 ≡ Some e → IsLeastOther t (held_by C) (Some e.0)
        by [] same at = absurd (none-some e at)
        by (x ∷ rest) same at =
            let low : nat_cmp f x.0 ≡ Less = less (nat_cmp f x.0) (and_first _ _ (subst (λ xs. T (below_all nat_cmp f xs)) same (above some))) in
            let ne : x.0 ≢ t = (λ e. true≢false (sym (ap is_eq (in_equal f x.0 (own ∙ sym e))) ∙ ap is_eq low)) in
            subst (λ (y : ℕ × ℕ). IsLeastOther t (held_by C) (Some y.0)) (same_Some x e at) (least_found t C es (rest_left some own) x rest same positive ne)

    pub none_second : n ≢ 0 → f ≡ t → slice_get es 0 ≡ None → IsLeastOther t (held_by C) None
    none_second some own none = none_found t C es (rest_left some own) (no_entry es none)

    pub next_is_least : n ≢ 0 → f ≡ t → IsLeastOther t (held_by C) (option_map (λ (e : ℕ × ℕ). e.0) (slice_get es 0))
    next_is_least some own = by (slice_get es 0) refl
      where
        by : (o : Option (ℕ × ℕ)) → slice_get es 0 ≡ o → IsLeastOther t (held_by C) (option_map (λ (e : ℕ × ℕ). e.0) o)
        by None at = none_second some own at
        by (Some e) at = second_is_least some own e at

    -- ---- one count written

    pub put_new : n ≡ 0 → all_holders t 1 es ≡ put nat_cmp t 1 (all_holders f n es)
    put_new none = ap (λ xs. (t, 1) ∷ xs) (h.alone none) ∙ ap (put nat_cmp t 1) (sym (none_first f n es none))

    as_put : (v : ℕ) (r : Ordering) → n ≢ 0 → nat_cmp t f ≡ r → put nat_cmp t v (all_holders f n es) ≡ by_order r ((t, v) ∷ (f, n) ∷ es) ((f, v) ∷ es) ((f, n) ∷ put nat_cmp t v es)
    as_put v r some e = ap (put nat_cmp t v) (some_first f n es (omega (arith, some))) ∙ ap (λ x. by_order x ((t, v) ∷ (f, n) ∷ es) ((f, v) ∷ es) ((f, n) ∷ put nat_cmp t v es)) e

    pub put_first : n ≢ 0 → f ≡ t → (v : ℕ) → 0 < v → all_holders f v es ≡ put nat_cmp t v (all_holders f n es)
    put_first some own v low = some_first f v es low ∙ sym (as_put v Equal some (in_equal t f (sym own)))

    pub put_before : n ≢ 0 → t < f → (fs : List (ℕ × ℕ)) → fs ≡ take 0 es ++ (f, n) ∷ drop 0 es → all_holders t 1 fs ≡ put nat_cmp t 1 (all_holders f n es)
    put_before some low fs is = ap (λ xs. (t, 1) ∷ xs) is ∙ sym (as_put 1 Less some (in_less t f low))

    pub put_after : n ≢ 0 → f < t → (v : ℕ) (fs : List (ℕ × ℕ)) → fs ≡ put nat_cmp t v es → all_holders f n fs ≡ put nat_cmp t v (all_holders f n es)
    put_after some low v fs is = some_first f n fs (omega (arith, some)) ∙ ap (λ xs. (f, n) ∷ xs) is ∙ sym (as_put v Greater some (in_greater t f low))

    module _ (g m : ℕ) (fs : List (ℕ × ℕ)) (v : ℕ) (is : all_holders g m fs ≡ put nat_cmp t v (all_holders f n es)) where
      written : IsWritten (all_holders f n es) (all_holders g m fs) t v
      written = put_writes (all_holders f n es) (all_holders g m fs) t v h.list.sorted is

      pub are_put : m ≢ 0 → 0 < v → AreHolders g m fs
      are_put some low = record {
        list = record {
          sorted = written.sorted;
          positive = positive_set (from_entries nat_cmp (all_holders f n es)) (from_entries nat_cmp (all_holders g m fs)) t (Some v) written.map h.list.positive (λ k e. let same : v ≡ k = same_Some v k e in omega (arith, same, low));
        };
        alone = λ e. absurd (some e);
      }

      pub one_more : v ≡ held_by C t + 1 → (u : ℕ) → held_by (from_entries nat_cmp (all_holders g m fs)) u ≡ held_by C u + one (u == t)
      one_more = once_more C (from_entries nat_cmp (all_holders g m fs)) t v (written.map ∙ ap (λ M. set_at M t (Some v)) view)

      pub one_less : held_by C t ≡ v + 1 → (u : ℕ) → held_by C u ≡ held_by (from_entries nat_cmp (all_holders g m fs)) u + one (u == t)
      one_less = once_less C (from_entries nat_cmp (all_holders g m fs)) t (Some v) (written.map ∙ ap (λ M. set_at M t (Some v)) view)

    -- ---- one entry gone

    pub without_first : n ≢ 0 → f ≡ t → es ≡ without t (all_holders f n es)
    without_first some own =
        sym (ap (without t) (some_first f n es (omega (arith, some)))
        ∙ ap (λ r. cond (not (is_eq r)) ((f, n) ∷ without t es) (without t es)) (in_equal t f (sym own))
        ∙ without_any t es (subst (λ x. T (below_all nat_cmp x es)) own (above some)))

    pub without_after : n ≢ 0 → f < t → (fs : List (ℕ × ℕ)) → fs ≡ without t es → all_holders f n fs ≡ without t (all_holders f n es)
    without_after some low fs is =
        some_first f n fs (omega (arith, some)) ∙ ap (λ xs. (f, n) ∷ xs) is
        ∙ sym (ap (without t) (some_first f n es (omega (arith, some))) ∙ ap (λ r. cond (not (is_eq r)) ((f, n) ∷ without t es) (without t es)) (in_greater t f low))

    module _ (g m : ℕ) (fs : List (ℕ × ℕ)) (is : all_holders g m fs ≡ without t (all_holders f n es)) where
      dropped : IsDropped (all_holders f n es) (all_holders g m fs) t
      dropped = without_drops (all_holders f n es) (all_holders g m fs) t h.list.sorted is

      pub are_left : (m ≡ 0 → fs ≡ []) → AreHolders g m fs
      are_left alone = record {
        list = record {
          sorted = dropped.sorted;
          positive = positive_set (from_entries nat_cmp (all_holders f n es)) (from_entries nat_cmp (all_holders g m fs)) t None dropped.map h.list.positive (λ k e. absurd (none-some k e));
        };
        alone = alone;
      }

      pub last_less : held_by C t ≡ 1 → (u : ℕ) → held_by C u ≡ held_by (from_entries nat_cmp (all_holders g m fs)) u + one (u == t)
      last_less last = once_less C (from_entries nat_cmp (all_holders g m fs)) t None (dropped.map ∙ ap (λ M. set_at M t None) view) (last ∙ omega arith)

    -- ---- one of the others has one less, or goes

    module _ (low : 0 < held_by C t) (ne : f ≢ t) (k : ℕ) (fs : List (ℕ × ℕ)) (less : 0 < k → fs ≡ put nat_cmp t k es) (gone : k ≡ 0 → fs ≡ without t es) where
      with_less : k ≢ 0 → all_holders f n fs ≡ put nat_cmp t k (all_holders f n es)
      with_less some = put_after (some_held low) (after_first low ne) k fs (less (omega (arith, some)))

      with_none : k ≡ 0 → all_holders f n fs ≡ without t (all_holders f n es)
      with_none none = without_after (some_held low) (after_first low ne) fs (gone none)

      pub others_left : AreHolders f n fs
      others_left = elim (cases_eq k 0) [
        | inl none ↦ are_left f n fs (with_none none) (λ e. absurd (some_held low e))
        | inr some ↦ are_put f n fs k (with_less some) (some_held low) (omega (arith, some))
      ]

      pub others_less : k + 1 ≡ held_by C t → (u : ℕ) → held_by C u ≡ held_by (from_entries nat_cmp (all_holders f n fs)) u + one (u == t)
      others_less left = elim (cases_eq k 0) [
        | inl none ↦ last_less f n fs (with_none none) (omega (arith, left, none))
        | inr some ↦ one_less f n fs k (with_less some) (omega (arith, left))
      ]
