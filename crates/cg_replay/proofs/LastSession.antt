-- No two sessions have one name: so the place where a name stands is the first with it, and its number follows.
use Rattle.std.proofs.Common.{◌≡◌, ℕ, zero, suc, ◌+◌, ◌<◌, ⊎_elim, Bool, true, false, List, [], ◌∷◌, length, slice_get, Some, nat_eq, refl, sym, ap, ◌∙◌, true≢false, arith}
use Rattle.std.proofs.lemmas.Option.{none-some, same_Some}
use Rattle.std.specs.List.{AllByRecursion, IsDistinct, list_any, position_or_len}
use Rattle.std.specs.Cmp.Lexicographic.{pointwise, bytes_decides}
use Rattle.std.proofs.lemmas.Bool.{cases_Bool}
use Rattle.cg_script.specs.Turns.{session_number, with_name}

abbrev same : List ℕ → List ℕ → Bool
same = pointwise nat_eq

same_here : (n : List ℕ) → same n n ≡ true
same_here n = (bytes_decides n n).1 refl

same_is : (n m : List ℕ) → same n m ≡ true → n ≡ m
same_is n m h = (bytes_decides n m).0 h

-- a name that no other is equal to
no_other : (x : List ℕ) (xs : List (List ℕ)) → AllByRecursion (λ y. same x y ≡ false) xs → list_any (same x) xs ≡ false
no_other x [] h = refl
no_other x (y ∷ ys) h = let rest = no_other x ys h.1 in rw h.0 rest

record IsFirst (names : List (List ℕ)) (i : ℕ) (n : List ℕ) : Type 0 where
  pub place : position_or_len (same n) names ≡ i
  pub within : i < length names
  pub there : list_any (same n) names ≡ true

first : (names : List (List ℕ)) (i : ℕ) (n : List ℕ) → IsDistinct same names → slice_get names i ≡ Some n → IsFirst names i n
unfolding IsDistinct
first [] i n d at = absurd (none-some _ at)
first (x ∷ xs) zero n d at =
    let t : same n x ≡ true = ap (same n) (same_Some _ _ at) ∙ same_here n in
    record { place = rw t refl; within = omega arith; there = rw t refl }
first (x ∷ xs) (suc i) n d at =
    let rest : IsFirst xs i n = first xs i n d.1 at in
    ⊎_elim
    (λ t. absurd (true≢false (sym rest.there ∙ ap (λ m. list_any (same m) xs) (same_is n x t) ∙ no_other x xs d.0)))
    (λ f. let p = rest.place in record { place = rw f (omega (arith, p)); within = omega (arith, rest.within); there = rw f rest.there })
    (cases_Bool (same n x))

module _ (names : List (List ℕ)) (i : ℕ) (there name : List ℕ) (distinct : IsDistinct same names) (at : slice_get names i ≡ Some there) (e : same there name ≡ true) where
  found : IsFirst names i name
  found = first names i name distinct (at ∙ ap Some (same_is there name e))

  pub number_at : session_number names name ≡ Some (i + 1)
  number_at =
      let t = found.there in
      let p = found.place in
      let w = found.within in
      rw t (rw p (grind arith))

  pub names_at : with_name names name ≡ names
  names_at = let t = found.there in rw t refl
