-- Lists of bytes that pass a test, and lists cut at such bytes.
use Rattle.std.proofs.Common.{◌≡◌, ℕ, ◌≤◌, Bool, true, false, ◌&&◌, cond, List, [], ◌∷◌, ◌++◌, length, refl, ap, sym, ◌∙◌, arith, length-append}
use Rattle.std.specs.List.{list_all, slice_split, onto_first}
use Rattle.std.proofs.lemmas.Bool.{and_parts}
use Rattle.cg_text.specs.Cutting.{behind}

pub all_append : (p : ℕ → Bool) (xs ys : List ℕ) → list_all p xs ≡ true → list_all p ys ≡ true → list_all p (xs ++ ys) ≡ true
all_append p [] ys h k = k
all_append p (x ∷ xs) ys h k =
    let e : (p x ≡ true) × (list_all p xs ≡ true) = and_parts (p x) (list_all p xs) h in
    ap (λ b. b && list_all p (xs ++ ys)) e.0 ∙ all_append p xs ys e.1 k

pub all_weaker : (p r : ℕ → Bool) → ((b : ℕ) → p b ≡ true → r b ≡ true) → (xs : List ℕ) → list_all p xs ≡ true → list_all r xs ≡ true
all_weaker p r f [] h = refl
all_weaker p r f (x ∷ xs) h =
    let e : (p x ≡ true) × (list_all p xs ≡ true) = and_parts (p x) (list_all p xs) h in
    ap (λ b. b && list_all r xs) (f x e.0) ∙ all_weaker p r f xs e.1

-- no byte that passes p passes q: a row of the first is one part, up to the first byte of the second
module _ (p q : ℕ → Bool) (apart : (b : ℕ) → p b ≡ true → q b ≡ false) where
  pub split_at : (xs : List ℕ) (y : ℕ) (ys : List ℕ) → list_all p xs ≡ true → q y ≡ true → slice_split q (xs ++ y ∷ ys) ≡ xs ∷ slice_split q ys
  split_at [] y ys h k = ap (λ b. cond b ([] ∷ slice_split q ys) (onto_first y (slice_split q ys))) k
  split_at (x ∷ xs) y ys h k =
      ap (λ b. cond b ([] ∷ slice_split q (xs ++ y ∷ ys)) (onto_first x (slice_split q (xs ++ y ∷ ys)))) (apart x (and_parts (p x) (list_all p xs) h).0)
      ∙ ap (onto_first x) (split_at xs y ys (and_parts (p x) (list_all p xs) h).1 k)

  pub split_none : (xs : List ℕ) → list_all p xs ≡ true → slice_split q xs ≡ xs ∷ []
  split_none [] h = refl
  split_none (x ∷ xs) h =
      ap (λ b. cond b ([] ∷ slice_split q xs) (onto_first x (slice_split q xs))) (apart x (and_parts (p x) (list_all p xs) h).0)
      ∙ ap (onto_first x) (split_none xs (and_parts (p x) (list_all p xs) h).1)

-- ---- what stands behind the bytes at the front that pass

module _ (p : ℕ → Bool) where
  pub behind_one : (x : ℕ) (xs : List ℕ) → p x ≡ true → behind p (x ∷ xs) ≡ behind p xs
  behind_one x xs e = ap (λ b. cond b (behind p xs) (x ∷ xs)) e

  pub behind_none : (x : ℕ) (xs : List ℕ) → p x ≡ false → behind p (x ∷ xs) ≡ x ∷ xs
  behind_none x xs e = ap (λ b. cond b (behind p xs) (x ∷ xs)) e

  pub behind_row : (xs ys : List ℕ) → list_all p xs ≡ true → behind p (xs ++ ys) ≡ behind p ys
  behind_row [] ys h = refl
  behind_row (x ∷ xs) ys h = behind_one x (xs ++ ys) (and_parts (p x) (list_all p xs) h).0 ∙ behind_row xs ys (and_parts (p x) (list_all p xs) h).1

  pub behind_again : (xs : List ℕ) → behind p (behind p xs) ≡ behind p xs
  behind_again [] = refl
  behind_again (x ∷ xs) = by_test (behind_again xs) (p x) refl
    where
      by_test : behind p (behind p xs) ≡ behind p xs → (b : Bool) → p x ≡ b → behind p (behind p (x ∷ xs)) ≡ behind p (x ∷ xs)
      by_test again true e = ap (behind p) (behind_one x xs e) ∙ again ∙ sym (behind_one x xs e)
      by_test again false e = ap (behind p) (behind_none x xs e)

  -- the bytes at the front that pass, and what stands behind them
  pub front_row : (xs : List ℕ) → (front : List ℕ) × (xs ≡ front ++ behind p xs) × (list_all p front ≡ true)
  front_row [] = ([], refl, refl)
  front_row (x ∷ xs) = by_test (front_row xs) (p x) refl
    where
      by_test : (front : List ℕ) × (xs ≡ front ++ behind p xs) × (list_all p front ≡ true) → (b : Bool) → p x ≡ b → (front : List ℕ) × (x ∷ xs ≡ front ++ behind p (x ∷ xs)) × (list_all p front ≡ true)
      by_test r true e =
          (x ∷ r.0, ap (λ ys. x ∷ ys) r.1 ∙ ap (λ ys. x ∷ r.0 ++ ys) (sym (behind_one x xs e)), ap (λ b. b && list_all p r.0) e ∙ r.2)
      by_test r false e = ([], sym (behind_none x xs e), refl)

  pub behind_is_shorter : (xs : List ℕ) → length (behind p xs) ≤ length xs
  behind_is_shorter xs = let f : (front : List ℕ) × (xs ≡ front ++ behind p xs) × (list_all p front ≡ true) = front_row xs in omega (arith, ap length f.1, length-append f.0 (behind p xs))
