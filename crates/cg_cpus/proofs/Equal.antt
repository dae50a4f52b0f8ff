-- Sets are equal where their words, or their members, are.
use Rattle.std.proofs.Common.{◌≡◌, ℕ, ◌==◌, Bool, true, false, ◌&&◌, nat_eq, List, [], ◌∷◌, refl, sym, ap, ◌∙◌, true≢false}
use Rattle.std.specs.Cmp.Lexicographic.{pointwise}
use Rattle.std.proofs.lemmas.Bool.{and_parts, eqb-true, eq-eqb}
use Rattle.cg_maps.specs.FiniteSet.{FiniteSet, members, set_of}
use Rattle.cg_maps.proofs.Sets.{set_of-members}
use Rattle.cg_cpus.specs.Words.{AreWords, set_in, words_of}
use Rattle.cg_cpus.specs.WordsBack.{words_back}

pub same_numbers : (xs ys : List ℕ) → pointwise nat_eq xs ys ≡ true → xs ≡ ys
same_numbers [] [] h = refl
same_numbers [] (y ∷ ys) h = absurd (true≢false (sym h))
same_numbers (x ∷ xs) [] h = absurd (true≢false (sym h))
same_numbers (x ∷ xs) (y ∷ ys) h = λ i. eqb-true x y (and_parts (x == y) _ h).0 i ∷ same_numbers xs ys (and_parts (x == y) _ h).1 i

-- sets that compare equal are equal
pub equal_sets : (s t : FiniteSet) → pointwise nat_eq (members s) (members t) ≡ true → s ≡ t
equal_sets s t h = sym (set_of-members s) ∙ ap set_of (same_numbers (members s) (members t) h) ∙ set_of-members t

pub same_tests : (a b : Bool) → (a ≡ true → b ≡ true) → (b ≡ true → a ≡ true) → a ≡ b
same_tests true b f g = sym (f refl)
same_tests false true f g = g refl
same_tests false false f g = refl

numbers_same : (xs ys : List ℕ) → xs ≡ ys → pointwise nat_eq xs ys ≡ true
numbers_same xs ys e = ap (λ zs. pointwise nat_eq xs zs) (sym e) ∙ itself xs
  where
    here : (x : ℕ) → (x == x) ≡ true
    here x = eq-eqb x x refl

    itself : (xs : List ℕ) → pointwise nat_eq xs xs ≡ true
    itself [] = refl
    itself (x ∷ xs) = ap (λ b. b && pointwise nat_eq xs xs) (here x) ∙ itself xs

-- words compare as the members of their sets do
pub equal_test : (ws vs : List ℕ) → AreWords ws → AreWords vs → pointwise nat_eq ws vs ≡ pointwise nat_eq (members (set_in ws)) (members (set_in vs))
equal_test ws vs h k = same_tests _ _
    (λ e. numbers_same _ _ (ap (λ us. members (set_in us)) (same_numbers ws vs e)))
    (λ e. numbers_same _ _ (sym (words_back ws h) ∙ ap words_of (equal_sets (set_in ws) (set_in vs) e) ∙ words_back vs k))
