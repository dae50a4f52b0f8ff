-- Numbers by places.
use Rattle.std.proofs.Common.{◌≡◌, ℕ, zero, suc, ◌+◌, ◌<◌, ◌==◌, ◌||◌, Bool, true, false, cond, List, [], ◌∷◌, ◌++◌, length, take, get_or, set, refl, sym, ap, ◌∙◌, arith}
use Rattle.std.proofs.lemmas.Bool.{eqb-true, eqb-false, or_right}
use Rattle.std.proofs.lemmas.List.{take_more, get_or-set_same, get_or-set_other}
use Rattle.std.specs.List.{AllByRecursion}
use Rattle.cg_model.specs.Opens.{among}

pub all_at : (P : ℕ → Type 0) (xs : List ℕ) (i : ℕ) → AllByRecursion P xs → i < length xs → P (get_or xs i 0)
all_at P [] i a lt = absurd (omega (arith, lt))
all_at P (x ∷ xs) zero a lt = a.0
all_at P (x ∷ xs) (suc i) a lt = all_at P xs i a.1 (omega (arith, lt))

or_false : (b : Bool) → (b || false) ≡ b
or_false true = refl
or_false false = refl

among_last : (n p : ℕ) (xs : List ℕ) → among n (xs ++ p ∷ []) ≡ (among n xs || (n == p))
among_last n p [] = or_false (n == p)
among_last n p (x ∷ xs) = at (n == x) (among_last n p xs)
  where
    at : (b : Bool) → among n (xs ++ p ∷ []) ≡ (among n xs || (n == p)) → (b || among n (xs ++ p ∷ [])) ≡ ((b || among n xs) || (n == p))
    at true rest = refl
    at false rest = rest

-- one more place has the number
pub one_more : (numbers olds places : List ℕ) (i number : ℕ) → i < length places → get_or places i 0 < length numbers
    → ((n : ℕ) → get_or numbers n 0 ≡ cond (among n (take i places)) number (get_or olds n 0))
    → (n : ℕ) → get_or (set numbers (get_or places i 0) number) n 0 ≡ cond (among n (take (i + 1) places)) number (get_or olds n 0)
one_more numbers olds places i number lt within so n =
    at (n == get_or places i 0) refl
    ∙ sym (ap (λ b. cond b number (get_or olds n 0)) (ap (among n) (take_more places i 0 lt) ∙ among_last n (get_or places i 0) (take i places)))
  where
    at : (b : Bool) → (n == get_or places i 0) ≡ b → get_or (set numbers (get_or places i 0) number) n 0 ≡ cond (among n (take i places) || (n == get_or places i 0)) number (get_or olds n 0)
    at true e =
        let is : n ≡ get_or places i 0 = eqb-true n (get_or places i 0) e in
        ap (λ m. get_or (set numbers (get_or places i 0) number) m 0) is
        ∙ get_or-set_same numbers (get_or places i 0) number 0 within
        ∙ sym (ap (λ b. cond b number (get_or olds n 0)) (or_right (among n (take i places)) (n == get_or places i 0) e))
    at false e =
        get_or-set_other numbers (get_or places i 0) n number 0 (eqb-false n (get_or places i 0) e)
        ∙ so n
        ∙ sym (ap (λ b. cond b number (get_or olds n 0)) (ap (λ b. among n (take i places) || b) e ∙ or_false (among n (take i places))))
