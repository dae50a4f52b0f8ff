-- The others in one part, as one list of all parts is changed at the place of one of them.
use Rattle.std.proofs.Common.{◌≡◌, ℕ, zero, suc, ◌+◌, ◌-◌, ◌<◌, ◌≤◌, ◌==◌, ◌++◌, nat_lt, true, false, cond, T, ◌⊎◌, inl, inr, List, [], ◌∷◌, Option, Some, None, option_map, drop, get_or, length, slice_get, take, unwrap_or, Less, Equal, Greater, refl, sym, ap, subst, ◌∙◌, arith}
use Rattle.std.proofs.Math.ListN.{set}
use Rattle.std.proofs.lemmas.Bool.Decides.{nat_tests}
use Rattle.cg_maps.specs.FiniteMap.{from_entries}
use Rattle.std.specs.Cmp.{nat_cmp_total}
use Rattle.std.specs.FinMap.{nat_cmp-IsAntisymmetric}
use Rattle.std.specs.FinMap.Entries.{below_all, find, is_sorted, put}
use Rattle.std.specs.Ordering.{eq_by_cmp, is_lt, nat_cmp}
use Rattle.cg_maps.proofs.Maps as maps
use Rattle.cg_maps.proofs.Tests.{and_first, and_second}
use Rattle.cg_locks.specs.declared.held.Part.{Part}
use Rattle.cg_locks.specs.declared.held.Part.TheVariants.{ChangedAt}
use Rattle.cg_locks.specs.declared.other_holders.Other.{Other}
use Rattle.cg_locks.specs.FirstsAndOthers.{others_in, spot_of}
use Rattle.cg_locks.specs.Held.{same_part}
use Rattle.cg_locks.specs.Holders.{all_holders, place_of, without, IsHolderList, IsPositive}
use Rattle.cg_locks.proofs.Firsts.{no_entry, split}
use Rattle.cg_locks.proofs.Parts.{same_part-is, same_part-itself}
use Rattle.cg_locks.proofs.Places.{IsPassed, found_here, never_found, new_is_put, not_found, one_passed, out_is_without, over_is_put, placed}

-- an entry with the number t and the count v in the part s
abbrev pub entry : Part → ℕ → ℕ → Other
entry s t v = record { part = s; holder = t; times = v }

-- ---- the part itself

module _ (s : Part) (t : ℕ) where
  -- at the spot stands what is at the place in the part
  spot_case : (e : Other) (es : List Other) (P : ℕ → List (ℕ × ℕ) → ℕ → Type 0)
      → (same_part s e.part ≡ false → P (suc (spot_of s t es)) (others_in s es) (place_of t (others_in s es)))
      → (same_part s e.part ≡ true → nat_lt e.holder t ≡ true → P (suc (spot_of s t es)) ((e.holder, e.times) ∷ others_in s es) (suc (place_of t (others_in s es))))
      → (same_part s e.part ≡ true → nat_lt e.holder t ≡ false → P 0 ((e.holder, e.times) ∷ others_in s es) 0)
      → P (spot_of s t (e ∷ es)) (others_in s (e ∷ es)) (place_of t (others_in s (e ∷ es)))
  spot_case e es P other lower here =
      elim (same_part s e.part) as (λ b. same_part s e.part ≡ b → P (cond b (cond (nat_lt e.holder t) (suc (spot_of s t es)) 0) (suc (spot_of s t es))) (cond b ((e.holder, e.times) ∷ others_in s es) (others_in s es)) (place_of t (cond b ((e.holder, e.times) ∷ others_in s es) (others_in s es)))) [
        | true ↦ λ own. (elim (nat_lt e.holder t) as (λ b. nat_lt e.holder t ≡ b → P (cond b (suc (spot_of s t es)) 0) ((e.holder, e.times) ∷ others_in s es) (cond b (suc (place_of t (others_in s es))) 0)) [
          | true ↦ λ low. lower own low
          | false ↦ λ high. here own high
        ] refl)
        | false ↦ λ ne. other ne
      ] refl

  of_other : (e : Other) (es : List Other) → same_part s e.part ≡ false → others_in s (e ∷ es) ≡ others_in s es
  of_other e es ne = ap (λ b. cond b ((e.holder, e.times) ∷ others_in s es) (others_in s es)) ne

  of_own : (e : Other) (es : List Other) → same_part s e.part ≡ true → others_in s (e ∷ es) ≡ (e.holder, e.times) ∷ others_in s es
  of_own e es own = ap (λ b. cond b ((e.holder, e.times) ∷ others_in s es) (others_in s es)) own

  module _ (v : ℕ) where
    pub of_entry : (es : List Other) → others_in s (entry s t v ∷ es) ≡ (t, v) ∷ others_in s es
    of_entry es = of_own (entry s t v) es (same_part-itself s)

    put_in_part : (es : List Other) → others_in s (take (spot_of s t es) es ++ entry s t v ∷ drop (spot_of s t es) es) ≡ take (place_of t (others_in s es)) (others_in s es) ++ (t, v) ∷ drop (place_of t (others_in s es)) (others_in s es)
    put_in_part [] = of_entry []
    put_in_part (e ∷ es) = spot_case e es (λ k os n. others_in s (take k (e ∷ es) ++ entry s t v ∷ drop k (e ∷ es)) ≡ take n os ++ (t, v) ∷ drop n os)
        (λ ne. of_other e (take (spot_of s t es) es ++ entry s t v ∷ drop (spot_of s t es) es) ne ∙ put_in_part es)
        (λ own low. of_own e (take (spot_of s t es) es ++ entry s t v ∷ drop (spot_of s t es) es) own ∙ ap (λ xs. (e.holder, e.times) ∷ xs) (put_in_part es))
        (λ own high. of_entry (e ∷ es) ∙ ap (λ xs. (t, v) ∷ xs) (of_own e es own))

    put_over_part : (es : List Other) → others_in s (set es (spot_of s t es) (entry s t v)) ≡ set (others_in s es) (place_of t (others_in s es)) (t, v)
    put_over_part [] = refl
    put_over_part (e ∷ es) = spot_case e es (λ k os n. others_in s (set (e ∷ es) k (entry s t v)) ≡ set os n (t, v))
        (λ ne. of_other e (set es (spot_of s t es) (entry s t v)) ne ∙ put_over_part es)
        (λ own low. of_own e (set es (spot_of s t es) (entry s t v)) own ∙ ap (λ xs. (e.holder, e.times) ∷ xs) (put_over_part es))
        (λ own high. of_entry es)

  taken_out_of_part : (es : List Other) → others_in s (take (spot_of s t es) es ++ drop (suc (spot_of s t es)) es) ≡ take (place_of t (others_in s es)) (others_in s es) ++ drop (suc (place_of t (others_in s es))) (others_in s es)
  taken_out_of_part [] = refl
  taken_out_of_part (e ∷ es) = spot_case e es (λ k os n. others_in s (take k (e ∷ es) ++ drop (suc k) (e ∷ es)) ≡ take n os ++ drop (suc n) os)
      (λ ne. of_other e (take (spot_of s t es) es ++ drop (suc (spot_of s t es)) es) ne ∙ taken_out_of_part es)
      (λ own low. of_own e (take (spot_of s t es) es ++ drop (suc (spot_of s t es)) es) own ∙ ap (λ xs. (e.holder, e.times) ∷ xs) (taken_out_of_part es))
      (λ own high. refl)

  -- what is in the part is in the list
  within_list : (es : List Other) → place_of t (others_in s es) < length (others_in s es) → spot_of s t es < length es
  within_list [] = λ low. low
  within_list (e ∷ es) = spot_case e es (λ k os n. n < length os → k < suc (length es))
      (λ ne low. let rest = within_list es low in omega (arith, rest))
      (λ own less low. let rest = within_list es (omega (arith, low)) in omega (arith, rest))
      (λ own high low. omega arith)

-- the least in the part
least_at : (s : Part) (es : List Other) → option_map (λ (e : Other). (e.holder, e.times)) (slice_get es (spot_of s 0 es)) ≡ slice_get (others_in s es) 0
least_at s [] = refl
least_at s (e ∷ es) = spot_case s 0 e es (λ k os n. option_map (λ (e : Other). (e.holder, e.times)) (slice_get (e ∷ es) k) ≡ slice_get os 0)
    (λ ne. least_at s es)
    (λ own low. let l : e.holder < 0 = grind (arith, nat_tests, low) in absurd (omega (arith, l)))
    (λ own high. refl)

least_place : (os : List (ℕ × ℕ)) → place_of 0 os ≡ 0
least_place [] = refl
least_place (e ∷ es) = elim (nat_lt e.0 0) as (λ b. nat_lt e.0 0 ≡ b → cond b (suc (place_of 0 es)) 0 ≡ 0) [
  | true ↦ λ low. let l : e.0 < 0 = grind (arith, nat_tests, low) in absurd (omega (arith, l))
  | false ↦ λ high. refl
] refl

-- ---- another part

module _ (r s : Part) (ne : same_part r s ≡ false) where
  -- an entry of the one is none of the other
  not_own : (e : Other) → same_part s e.part ≡ true → same_part r e.part ≡ false
  not_own e own = subst (λ q. same_part r q ≡ false) (same_part-is s e.part own) ne

  pub new_in_other : (es : List Other) (k t v : ℕ) → others_in r (take k es ++ entry s t v ∷ drop k es) ≡ others_in r es
  new_in_other es zero t v = of_other r 0 (entry s t v) es ne
  new_in_other [] (suc k) t v = of_other r 0 (entry s t v) [] ne
  new_in_other (e ∷ es) (suc k) t v = elim (same_part r e.part) as (λ b. cond b ((e.holder, e.times) ∷ others_in r (take k es ++ entry s t v ∷ drop k es)) (others_in r (take k es ++ entry s t v ∷ drop k es)) ≡ cond b ((e.holder, e.times) ∷ others_in r es) (others_in r es)) [
    | true ↦ ap (λ xs. (e.holder, e.times) ∷ xs) (new_in_other es k t v)
    | false ↦ new_in_other es k t v
  ]

  module _ (t : ℕ) where
    also : (e : Other) (xs ys : List Other) → others_in r xs ≡ others_in r ys → others_in r (e ∷ xs) ≡ others_in r (e ∷ ys)
    also e xs ys same = ap (λ os. cond (same_part r e.part) ((e.holder, e.times) ∷ os) os) same

    put_over_other : (es : List Other) (v : ℕ) → others_in r (set es (spot_of s t es) (entry s t v)) ≡ others_in r es
    put_over_other [] v = refl
    put_over_other (e ∷ es) v = spot_case s t e es (λ k os n. others_in r (set (e ∷ es) k (entry s t v)) ≡ others_in r (e ∷ es))
        (λ ne. also e (set es (spot_of s t es) (entry s t v)) es (put_over_other es v))
        (λ own low. also e (set es (spot_of s t es) (entry s t v)) es (put_over_other es v))
        (λ own high. of_other r 0 (entry s t v) es ne ∙ sym (of_other r 0 e es (not_own e own)))

    taken_out_of_other : (es : List Other) → others_in r (take (spot_of s t es) es ++ drop (suc (spot_of s t es)) es) ≡ others_in r es
    taken_out_of_other [] = refl
    taken_out_of_other (e ∷ es) = spot_case s t e es (λ k os n. others_in r (take k (e ∷ es) ++ drop (suc k) (e ∷ es)) ≡ others_in r (e ∷ es))
        (λ ne. also e (take (spot_of s t es) es ++ drop (suc (spot_of s t es)) es) es (taken_out_of_other es))
        (λ own low. also e (take (spot_of s t es) es ++ drop (suc (spot_of s t es)) es) es (taken_out_of_other es))
        (λ own high. sym (of_other r 0 e es (not_own e own)))

-- ---- at the spot

module _ (s : Part) (t : ℕ) (es : List Other) (k : ℕ) (at : k ≡ spot_of s t es) where
  pub new_in_part : (v : ℕ) → IsPositive (from_entries nat_cmp (others_in s es)) → unwrap_or (find nat_cmp t (others_in s es)) 0 ≡ 0 → others_in s (take k es ++ entry s t v ∷ drop k es) ≡ put nat_cmp t v (others_in s es)
  new_in_part v positive none =
      ap (λ n. others_in s (take n es ++ entry s t v ∷ drop n es)) at ∙ put_in_part s t v es
      ∙ new_is_put (others_in s es) t v (place_of t (others_in s es)) positive none refl

  pub over_in_other : (r : Part) → same_part r s ≡ false → (v : ℕ) → others_in r (set es k (entry s t v)) ≡ others_in r es
  over_in_other r ne v = ap (λ n. others_in r (set es n (entry s t v))) at ∙ put_over_other r s ne t es v

  pub out_of_other : (r : Part) → same_part r s ≡ false → others_in r (take k es ++ drop (suc k) es) ≡ others_in r es
  out_of_other r ne = ap (λ n. others_in r (take n es ++ drop (suc n) es)) at ∙ taken_out_of_other r s ne t es

  module _ (h : T (is_sorted nat_cmp (others_in s es))) (low : 0 < unwrap_or (find nat_cmp t (others_in s es)) 0) where
    pub stands : k < length es
    stands =
        let own = placed (others_in s es) t (place_of t (others_in s es)) h low refl in
        let there = within_list s t es own in
        omega (arith, at, there)

    pub over_in_part : (v : ℕ) → others_in s (set es k (entry s t v)) ≡ put nat_cmp t v (others_in s es)
    over_in_part v =
        ap (λ n. others_in s (set es n (entry s t v))) at ∙ put_over_part s t v es
        ∙ over_is_put (others_in s es) t v (place_of t (others_in s es)) h low refl

    pub out_of_part : others_in s (take k es ++ drop (suc k) es) ≡ without t (others_in s es)
    out_of_part =
        ap (λ n. others_in s (take n es ++ drop (suc n) es)) at ∙ taken_out_of_part s t es
        ∙ out_is_without (others_in s es) t (place_of t (others_in s es)) h low refl

-- ---- the least in a part

module _ (s : Part) (es : List Other) (k : ℕ) (at : k ≡ spot_of s 0 es) (o : Option Other) (is : slice_get es k ≡ o) where
  least_there : slice_get (others_in s es) 0 ≡ option_map (λ (e : Other). (e.holder, e.times)) o
  least_there = sym (least_at s es) ∙ ap (λ n. option_map (λ (e : Other). (e.holder, e.times)) (slice_get es n)) (sym at) ∙ ap (option_map (λ (e : Other). (e.holder, e.times))) is

  pub least_told : option_map (λ (e : ℕ × ℕ). e.0) (slice_get (others_in s es) 0) ≡ option_map (λ (e : Other). e.holder) o
  least_told = ap (option_map (λ (e : ℕ × ℕ). e.0)) least_there ∙ elim o as (λ x. option_map (λ (e : ℕ × ℕ). e.0) (option_map (λ (e : Other). (e.holder, e.times)) x) ≡ option_map (λ (e : Other). e.holder) x) [ None ↦ refl | Some x ↦ refl ]

  pub none_told : o ≡ None → others_in s es ≡ []
  none_told none = no_entry (others_in s es) (least_there ∙ ap (option_map (λ (e : Other). (e.holder, e.times))) none)

  pub split_part : (e : Other) → o ≡ Some e → IsHolderList (others_in s es) → (es' : List Other) → es' ≡ take k es ++ drop (suc k) es → (0 < e.times) × (all_holders e.holder e.times (others_in s es') ≡ others_in s es)
  split_part e some h es' gone =
      split (others_in s es) (e.holder, e.times) (others_in s es') h (least_there ∙ ap (option_map (λ (x : Other). (x.holder, x.times))) some)
      (ap (others_in s) gone ∙ ap (λ n. others_in s (take n es ++ drop (suc n) es)) at ∙ taken_out_of_part s 0 es ∙ ap (λ n. take n (others_in s es) ++ drop (suc n) (others_in s es)) (least_place (others_in s es)))

-- ---- a spot sought from the front

-- the entries before those that are left, so many, are of other parts or have lower numbers
pub record IsSought (s : Part) (t : ℕ) (es : List Other) (k : ℕ) (left : List Other) : Type 0 where
  pub passed : ℕ
  pub own : IsPassed t (others_in s es) passed (others_in s left)
  pub spot : spot_of s t es ≡ k + spot_of s t left

pub sought_yet : (s : Part) (t : ℕ) (es : List Other) → T (is_sorted nat_cmp (others_in s es)) → IsSought s t es 0 es
sought_yet s t es h = record {
  passed = 0;
  own = record { sorted = h; same = refl; place = omega arith };
  spot = omega arith;
}

module _ (s : Part) (t : ℕ) (es : List Other) (k : ℕ) (left : List Other) (h : IsSought s t es k left) where
  -- none is left
  pub last_spot : left ≡ [] → k ≡ spot_of s t es
  last_spot is = let a = h.spot in let b : spot_of s t left ≡ 0 = ap (spot_of s t) is in omega (arith, a, b)

  pub never_there : left ≡ [] → 0 ≡ unwrap_or (find nat_cmp t (others_in s es)) 0
  never_there is = never_found t (others_in s es) h.passed (others_in s left) h.own (ap (others_in s) is)

  module _ (e : Other) (rest : List Other) (is : left ≡ e ∷ rest) where
    -- of another part
    pub other_passed : same_part s e.part ≡ false → IsSought s t es (k + 1) rest
    other_passed ne =
        let a = h.spot in
        let b : spot_of s t left ≡ suc (spot_of s t rest) = ap (spot_of s t) is ∙ ap (λ x. cond x (cond (nat_lt e.holder t) (suc (spot_of s t rest)) 0) (suc (spot_of s t rest))) ne in
        record {
          passed = h.passed;
          own = subst (IsPassed t (others_in s es) h.passed) (ap (others_in s) is ∙ of_other s t e rest ne) h.own;
          spot = omega (arith, a, b);
        }

    module _ (own : same_part s e.part ≡ true) where
      listed : others_in s left ≡ (e.holder, e.times) ∷ others_in s rest
      listed = ap (others_in s) is ∙ of_own s t e rest own

      spot_by : spot_of s t left ≡ cond (nat_lt e.holder t) (suc (spot_of s t rest)) 0
      spot_by = ap (spot_of s t) is ∙ ap (λ x. cond x (cond (nat_lt e.holder t) (suc (spot_of s t rest)) 0) (suc (spot_of s t rest))) own

      pub spot_here : t ≤ e.holder → k ≡ spot_of s t es
      spot_here low =
          let a = h.spot in
          let high : nat_lt e.holder t ≡ false = grind (arith, nat_tests, low) in
          let b : spot_of s t left ≡ 0 = spot_by ∙ ap (λ x. cond x (suc (spot_of s t rest)) 0) high in
          omega (arith, a, b)

      pub there : e.holder ≡ t → e.times ≡ unwrap_or (find nat_cmp t (others_in s es)) 0
      there same = found_here t (others_in s es) h.passed (others_in s left) h.own (e.holder, e.times) (others_in s rest) listed same

      pub not_there : t < e.holder → 0 ≡ unwrap_or (find nat_cmp t (others_in s es)) 0
      not_there low = not_found t (others_in s es) h.passed (others_in s left) h.own (e.holder, e.times) (others_in s rest) listed low

      pub lower_passed : e.holder < t → IsSought s t es (k + 1) rest
      lower_passed low =
          let a = h.spot in
          let yes : nat_lt e.holder t ≡ true = grind (arith, nat_tests, low) in
          let b : spot_of s t left ≡ suc (spot_of s t rest) = spot_by ∙ ap (λ x. cond x (suc (spot_of s t rest)) 0) yes in
          record {
            passed = h.passed + 1;
            own = one_passed t (others_in s es) h.passed (others_in s left) h.own (e.holder, e.times) (others_in s rest) listed low;
            spot = omega (arith, a, b);
          }

    -- whose number is lower, of whichever part it is
    pub any_passed : e.holder < t → IsSought s t es (k + 1) rest
    any_passed low = elim (same_part s e.part) as (λ b. same_part s e.part ≡ b → IsSought s t es (k + 1) rest) [
      | true ↦ λ own. lower_passed own low
      | false ↦ λ ne. other_passed ne
    ] refl

-- ---- the youngest in a part

-- the last entry has a lower number, and there is one
abbrev pub EndsBelow : ℕ → List (ℕ × ℕ) → Type 0
EndsBelow t [] = ⊥
EndsBelow t (e ∷ es) = ((es ≡ []) × (e.0 < t)) ⊎ EndsBelow t es

less_by_order : (x y : ℕ) → T (is_lt (nat_cmp x y)) → x < y
less_by_order x y h = elim (nat_lt x y) as (λ b. nat_lt x y ≡ b → T (is_lt (cond b Less (cond (x == y) Equal Greater))) → x < y) [
  | true ↦ λ low is. grind (arith, nat_tests, low)
  | false ↦ λ high. (elim (x == y) as (λ b. T (is_lt (cond b Equal Greater)) → x < y) [
    | true ↦ λ is. absurd is
    | false ↦ λ is. absurd is
  ])
] refl h

-- so has what stands below all of them
below_end : (t x : ℕ) (es : List (ℕ × ℕ)) → T (below_all nat_cmp x es) → EndsBelow t es → x < t
below_end t x [] h ends = absurd ends
below_end t x (e ∷ es) h ends = elim ends [
  | inl last ↦ let less = less_by_order x e.0 (and_first _ _ h) in omega (arith, less, last.1)
  | inr rest ↦ below_end t x es (and_second _ _ h) rest
]

-- and so have all
all_below : (t : ℕ) (es : List (ℕ × ℕ)) → T (is_sorted nat_cmp es) → EndsBelow t es → (place_of t es ≡ length es) × (find nat_cmp t es ≡ None)
all_below t [] h ends = absurd ends
all_below t (e ∷ es) h ends = elim ends [
  | inl last ↦
      let one : (place_of t es ≡ length es) × (find nat_cmp t es ≡ None) = subst (λ fs. (place_of t fs ≡ length fs) × (find nat_cmp t fs ≡ None)) (sym last.0) (refl, refl) in
      one_more last.1 one
  | inr rest ↦ one_more (below_end t e.0 es (and_first _ _ h) rest) (all_below t es (and_second _ _ h) rest)
]
  where
    one_more : e.0 < t → (place_of t es ≡ length es) × (find nat_cmp t es ≡ None) → (place_of t (e ∷ es) ≡ length (e ∷ es)) × (find nat_cmp t (e ∷ es) ≡ None)
    one_more low behind =
        let yes : nat_lt e.0 t ≡ true = grind (arith, nat_tests, low) in
        let other : eq_by_cmp nat_cmp t e.0 ≡ false = maps.apart nat_cmp_total nat_cmp-IsAntisymmetric t e.0 (λ same. omega (arith, low, same)) in
        (ap (λ b. cond b (suc (place_of t es)) 0) yes ∙ ap suc behind.0, ap (λ b. cond b (Some e.1) (find nat_cmp t es)) other ∙ behind.1)

module _ (s : Part) (t : ℕ) where
  -- behind the end of a part is behind the end of all
  spot_at_end : (es : List Other) → place_of t (others_in s es) ≡ length (others_in s es) → spot_of s t es ≡ length es
  spot_at_end [] = λ is. refl
  spot_at_end (e ∷ es) = spot_case s t e es (λ k os n. n ≡ length os → k ≡ suc (length es))
      (λ ne is. ap suc (spot_at_end es is))
      (λ own low is. ap suc (spot_at_end es (let same = is in omega (arith, same))))
      (λ own high is. absurd (omega (arith, is)))

  pub record IsYoungest (es : List Other) : Type 0 where
    pub spot : spot_of s t es ≡ length es
    pub none : unwrap_or (find nat_cmp t (others_in s es)) 0 ≡ 0

  -- nobody else is there
  pub youngest_alone : (es : List Other) → others_in s es ≡ [] → IsYoungest es
  youngest_alone es none = record {
    spot = spot_at_end es (subst (λ os. place_of t os ≡ length os) (sym none) refl);
    none = ap (λ os. unwrap_or (find nat_cmp t os) 0) none;
  }

  youngest_by_end : (es : List Other) → T (is_sorted nat_cmp (others_in s es)) → EndsBelow t (others_in s es) → IsYoungest es
  youngest_by_end es h ends =
      let all = all_below t (others_in s es) h ends in
      record {
        spot = spot_at_end es all.0;
        none = ap (λ r. unwrap_or r 0) all.1;
      }

  -- none of these is of the part
  pub none_of_part : (es : List Other) → ((k : ℕ) → k < length es → same_part s (get_or es k (entry ChangedAt 0 0)).part ≡ false) → others_in s es ≡ []
  none_of_part [] h = refl
  none_of_part (e ∷ es) h = of_other s t e es (h 0 (omega arith)) ∙ none_of_part es (λ k low. h (suc k) (omega (arith, low)))

  ends_at : (es : List Other) (i : ℕ) → i < length es → same_part s (get_or es i (entry ChangedAt 0 0)).part ≡ true → (get_or es i (entry ChangedAt 0 0)).holder < t
      → ((k : ℕ) → i < k → k < length es → same_part s (get_or es k (entry ChangedAt 0 0)).part ≡ false) → EndsBelow t (others_in s es)
  ends_at [] i within own low behind = absurd (omega (arith, within))
  ends_at (e ∷ es) zero within own low behind =
      subst (EndsBelow t) (sym (of_own s t e es own)) (inl (none_of_part es (λ k here. behind (suc k) (omega arith) (omega (arith, here))), low))
  ends_at (e ∷ es) (suc i) within own low behind =
      let rest : EndsBelow t (others_in s es) = ends_at es i (omega (arith, within)) own low (λ k later here. behind (suc k) (omega (arith, later)) (omega (arith, here))) in
      elim (same_part s e.part) as (λ b. EndsBelow t (cond b ((e.holder, e.times) ∷ others_in s es) (others_in s es))) [
        | true ↦ inr rest
        | false ↦ rest
      ]

  -- the last of the part, at i, has a lower number
  pub youngest_behind : (es : List Other) (i : ℕ) → T (is_sorted nat_cmp (others_in s es)) → i < length es → same_part s (get_or es i (entry ChangedAt 0 0)).part ≡ true → (get_or es i (entry ChangedAt 0 0)).holder < t
      → ((k : ℕ) → i < k → k < length es → same_part s (get_or es k (entry ChangedAt 0 0)).part ≡ false) → IsYoungest es
  youngest_behind es i h within own low behind = youngest_by_end es h (ends_at es i within own low behind)

  -- from one more on none is of the part
  pub none_from : (es : List Other) (i : ℕ) → 0 < i → same_part s (get_or es (i - 1) (entry ChangedAt 0 0)).part ≡ false → ((k : ℕ) → i ≤ k → k < length es → same_part s (get_or es k (entry ChangedAt 0 0)).part ≡ false)
      → (k : ℕ) → i - 1 ≤ k → k < length es → same_part s (get_or es k (entry ChangedAt 0 0)).part ≡ false
  none_from es i some here behind k past within = elim (nat_lt k i) as (λ b. nat_lt k i ≡ b → same_part s (get_or es k (entry ChangedAt 0 0)).part ≡ false) [
    | true ↦ λ before.
        let low : k < i = grind (arith, nat_tests, before) in
        let same : k ≡ i - 1 = omega (arith, low, past, some) in
        ap (λ n. same_part s (get_or es n (entry ChangedAt 0 0)).part) same ∙ here
    | false ↦ λ after.
        let high : i ≤ k = grind (arith, nat_tests, after) in
        behind k high within
  ] refl
