-- A derived `==` of an enum, and what its values mean.
use Rattle.std.proofs.Common.{◌≡◌, ℕ, suc, ◌≤◌, Bool, false, List, [], ◌∷◌, inl, inr, ap, arith}
use Rattle.std.proofs.lemmas.Bool.{false≢true}
use Rattle.std.specs.Bool.{Decides}
use denote.Struct.Field.{Field}
use denote.Struct.Values.{Values}
use denote.Enum.Declared.{Choice}
use denote.Enum.Compared.{Each, by}

-- what is told of one variant, and then of the later ones
pub also : {A B C : Type 0} → A → B → C → A × B × C
also a b c = (a, b, c)

-- an enum's values are compared variant by variant, and have a meaning, whose place tells the variant
module _ {M : Type 0} (place : M → ℕ) where
  -- the variants have places from n up, and where both are one variant, `==` tells whether they mean the same
  abbrev pub Tell : ℕ → (Fss : List (List Field)) → (Choice Fss → M) → Each Bool Fss → Type 0
  Tell n [] mean es = Unit {0}
  Tell n (Fs ∷ Fss) mean es =
      ((x : Values Fs) → place (mean (inl x)) ≡ n) × ((x y : Values Fs) → Decides (es.0 x y) (mean (inl x) ≡ mean (inl y))) × Tell (suc n) Fss (λ c. mean (inr c)) es.1

  above : (n : ℕ) (Fss : List (List Field)) (mean : Choice Fss → M) (es : Each Bool Fss) → Tell n Fss mean es → (c : Choice Fss) → n ≤ place (mean c)
  above n [] mean es all c = absurd c
  above n (Fs ∷ Fss) mean es all (inl x) = let here = all.0 x in omega (arith, here)
  above n (Fs ∷ Fss) mean es all (inr c) = let later = above (suc n) Fss (λ c. mean (inr c)) es.1 all.2 c in omega (arith, later)

  pub told : (n : ℕ) (Fss : List (List Field)) (mean : Choice Fss → M) (es : Each Bool Fss) → Tell n Fss mean es → (c d : Choice Fss) → Decides (by false false Fss es c d) (mean c ≡ mean d)
  told n [] mean es all c d = absurd c
  told n (Fs ∷ Fss) mean es all (inl x) (inl y) = all.1 x y
  told n (Fs ∷ Fss) mean es all (inl x) (inr d) =
      let here = all.0 x in
      let later = above (suc n) Fss (λ c. mean (inr c)) es.1 all.2 d in
      ((λ e. absurd (false≢true e)), (λ e. let same = ap place e in absurd (omega (arith, here, later, same))))
  told n (Fs ∷ Fss) mean es all (inr c) (inl y) =
      let here = all.0 y in
      let later = above (suc n) Fss (λ c. mean (inr c)) es.1 all.2 c in
      ((λ e. absurd (false≢true e)), (λ e. let same = ap place e in absurd (omega (arith, here, later, same))))
  told n (Fs ∷ Fss) mean es all (inr c) (inr d) = told (suc n) Fss (λ c. mean (inr c)) es.1 all.2 c d
