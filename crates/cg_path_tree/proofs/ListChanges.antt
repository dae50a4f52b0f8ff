-- What stands where in a list that grows by one or loses one.
use Rattle.std.proofs.Common.{Contains, map, ◌≡◌, ◌≢◌, ◌⊎◌, ℕ, zero, suc, ◌-◌, ◌<◌, ◌≤◌, List, [], ◌∷◌, ◌++◌, length, get_or, set, take, Option, None, Some, unwrap_or, refl, sym, ap, ◌∙◌, inl, inr, arith, length-take, get_or-take, get_or-set_same, get_or-set_other}
use Rattle.std.specs.List.{slice_get, swap_remove}
use Rattle.std.proofs.lemmas.Bool.{cases_eq}
use Rattle.std.proofs.lemmas.List.{length-set}
use Rattle.std.proofs.lemmas.Option.{slice_get_within, slice_get-get_or, get_or_from_slice_get}

pub same_some : {A : Type 0} (x y : A) → Some x ≡ Some y → x ≡ y
same_some x y e = ap (λ o. unwrap_or o x) e

pub some_not_none : {A : Type 0} (x : A) (o : Option A) → o ≡ Some x → o ≢ None
some_not_none x o e n = cc

module _ {A : Type 0} where
  -- ---- one more at the end

  pub at_push : (xs : List A) (x : A) (j : ℕ) (e : A) → slice_get xs j ≡ Some e → slice_get (xs ++ x ∷ []) j ≡ Some e
  at_push [] x j e h = absurd (some_not_none e None h refl)
  at_push (y ∷ ys) x zero e h = h
  at_push (y ∷ ys) x (suc j) e h = at_push ys x j e h

  pub at_end : (xs : List A) (x : A) → slice_get (xs ++ x ∷ []) (length xs) ≡ Some x
  at_end [] x = refl
  at_end (y ∷ ys) x = at_end ys x

  pub pushed_cases : (xs : List A) (x : A) (j : ℕ) (e : A) → slice_get (xs ++ x ∷ []) j ≡ Some e → (slice_get xs j ≡ Some e) ⊎ ((j ≡ length xs) × (x ≡ e))
  pushed_cases [] x zero e h = inr (refl, same_some x e h)
  pushed_cases [] x (suc j) e h = absurd (some_not_none e None h refl)
  pushed_cases (y ∷ ys) x zero e h = inl h
  pushed_cases (y ∷ ys) x (suc j) e h = elim (pushed_cases ys x j e h) [
    | inl a ↦ inl a
    | inr a ↦ inr (ap suc a.0, a.1)
  ]

  -- ---- one taken out, with the last in its place

  -- ys is xs with the last in the place of the one at i
  pub record LosesAt (xs ys : List A) (i : ℕ) : Type 0 where
    pub len : length xs ≡ suc (length ys)
    pub within : i ≤ length ys
    pub moved : i < length ys → slice_get ys i ≡ slice_get xs (length ys)
    pub kept : (j : ℕ) → j < length ys → j ≢ i → slice_get ys j ≡ slice_get xs j

  swapped : (xs : List A) (i n : ℕ) (d : A) → length xs ≡ suc n → i < length xs → (j : ℕ) → j < n → slice_get (take n (set xs i (get_or xs n d))) j ≡ Some (get_or (set xs i (get_or xs n d)) j d)
  swapped xs i n d len within j low =
      let set_len : length (set xs i (get_or xs n d)) ≡ length xs = length-set xs i (get_or xs n d) in
      let fits : j < length (take n (set xs i (get_or xs n d))) = omega (arith, length-take n (set xs i (get_or xs n d))) in
      slice_get-get_or (take n (set xs i (get_or xs n d))) j d fits ∙ ap Some (get_or-take _ _ _ _ low)

  pub loses-swap_remove : (xs : List A) (i : ℕ) (e : A) → slice_get xs i ≡ Some e → LosesAt xs (swap_remove xs i e) i
  loses-swap_remove xs i e here =
      let within : i < length xs = slice_get_within xs i e here in
      let n : ℕ = length xs - 1 in
      let ys : List A = take n (set xs i (get_or xs n e)) in
      let short : length ys ≡ n = omega (arith, length-take n (set xs i (get_or xs n e)), length-set xs i (get_or xs n e)) in
      let one : length xs ≡ suc n = omega arith in
      record {
        len = omega arith;
        within = omega arith;
        moved = λ low.
            swapped xs i n e one within i (omega arith)
            ∙ ap Some (get_or-set_same xs i (get_or xs n e) e within)
            ∙ sym (slice_get-get_or xs n e (omega arith)) ∙ ap (slice_get xs) (sym short);
        kept = λ j low apart.
            swapped xs i n e one within j (omega arith)
            ∙ ap Some (get_or-set_other xs i j (get_or xs n e) e apart)
            ∙ sym (slice_get-get_or xs j e (omega arith));
      }

  module _ (xs ys : List A) (i : ℕ) (loses : LosesAt xs ys i) where
    -- where an item that is left stood before
    pub left_cases : (j : ℕ) (e : A) → slice_get ys j ≡ Some e → (((j ≡ i) × (i < length ys) × (slice_get xs (length ys) ≡ Some e)) ⊎ ((j ≢ i) × (j < length ys) × (slice_get xs j ≡ Some e)))
    left_cases j e h =
        let low : j < length ys = slice_get_within ys j e h in
        elim (cases_eq j i) [
          | inl same ↦
              let low' : i < length ys = omega arith in
              inl (same, low', sym (loses.moved low') ∙ ap (slice_get ys) (sym same) ∙ h)
          | inr apart ↦ inr (apart, low, sym (loses.kept j low apart) ∙ h)
        ]

    -- and where an item that isn't taken out stands then
    pub still_there : (j : ℕ) (e : A) → slice_get xs j ≡ Some e → j ≢ i → (k : ℕ) × (slice_get ys k ≡ Some e)
    still_there j e h apart =
        let low : j < length xs = slice_get_within xs j e h in
        elim (cases_eq j (length ys)) [
          | inl last ↦
              let first : i < length ys = omega (arith, loses.within) in
              (i, loses.moved first ∙ ap (slice_get xs) (sym last) ∙ h)
          | inr before ↦ (j, loses.kept j (omega (arith, loses.len)) apart ∙ h)
        ]

-- ---- members

pub contains_at : {A : Type 0} (xs : List A) (j : ℕ) (x : A) → slice_get xs j ≡ Some x → Contains xs x
contains_at xs j x h = (j, slice_get_within xs j x h, get_or_from_slice_get xs j x x h)

pub at_contained : {A : Type 0} (xs : List A) (x : A) → Contains xs x → (j : ℕ) × (slice_get xs j ≡ Some x)
at_contained xs x h = (h.0, slice_get-get_or xs h.0 x h.1 ∙ ap Some h.2)

pub at_mapped : {A B : Type 0} (f : A → B) (xs : List A) (j : ℕ) (x : A) → slice_get xs j ≡ Some x → slice_get (map f xs) j ≡ Some (f x)
at_mapped f [] j x h = absurd (some_not_none x None h refl)
at_mapped f (y ∷ ys) zero x h = ap (λ z. Some (f z)) (same_some y x h)
at_mapped f (y ∷ ys) (suc j) x h = at_mapped f ys j x h

pub mapped_at : {A B : Type 0} (f : A → B) (xs : List A) (j : ℕ) (y : B) → slice_get (map f xs) j ≡ Some y → (x : A) × (slice_get xs j ≡ Some x) × (f x ≡ y)
mapped_at f [] j y h = absurd (some_not_none y None h refl)
mapped_at f (x ∷ xs) zero y h = (x, refl, same_some (f x) y h)
mapped_at f (x ∷ xs) (suc j) y h = mapped_at f xs j y h
