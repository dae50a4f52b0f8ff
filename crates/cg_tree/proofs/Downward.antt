-- Lists with what stands of each number below one, the greatest first.
use Rattle.std.proofs.Common.{◌≡◌, ℕ, zero, suc, ◌<◌, ◌≤◌, ◌||◌, Bool, true, false, List, [], ◌∷◌, drop, refl, sym, ap, ◌∙◌, arith}
use Rattle.std.specs.List.{list_any}
use Rattle.cg_tree.specs.Ancestors.{downward}

pub downward-same : {A : Type 0} (f g : ℕ → A) (n : ℕ) → ((d : ℕ) → d < n → f d ≡ g d) → downward f n ≡ downward g n
downward-same f g zero h = refl
downward-same f g (suc n) h = λ i. h n (omega arith) i ∷ downward-same f g n (λ d l. h d (omega (arith, l))) i

or_turned : (a b c : Bool) → (a || b) || c ≡ b || (a || c)
or_turned true true c = refl
or_turned true false c = refl
or_turned false b c = refl

or_nothing : (b : Bool) → b ≡ b || false
or_nothing true = refl
or_nothing false = refl

-- a list whose element at n is x n
module _ {A B : Type 0} (g : ℕ → A) (test : A → Bool) (x : ℕ → B) (t : B → Bool) (xs : List B) (end : ℕ)
    (next : (n : ℕ) → n < end → drop n xs ≡ x n ∷ drop (suc n) xs) (same : (n : ℕ) → n < end → test (g n) ≡ t (x n)) where
  any_so_far : (n : ℕ) → n ≤ end → list_any test (downward g n) || list_any t (drop n xs) ≡ list_any t xs
  any_so_far zero h = refl
  any_so_far (suc n) h =
      ap (λ b. (b || list_any test (downward g n)) || list_any t (drop (suc n) xs)) (same n (omega (arith, h)))
      ∙ or_turned (t (x n)) (list_any test (downward g n)) (list_any t (drop (suc n) xs))
      ∙ ap (λ ys. list_any test (downward g n) || list_any t ys) (sym (next n (omega (arith, h))))
      ∙ any_so_far n (omega (arith, h))

  -- what some of n elements pass, some pass from the last one on
  pub any_downward : drop end xs ≡ [] → list_any test (downward g end) ≡ list_any t xs
  any_downward none = or_nothing (list_any test (downward g end)) ∙ ap (λ ys. list_any test (downward g end) || list_any t ys) (sym none) ∙ any_so_far end (omega arith)
