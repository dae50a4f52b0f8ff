-- What holds of each item of a list.
use Rattle.std.proofs.Common.{◌≡◌, Bool, true, false, ◌||◌, List, [], ◌∷◌, ◌++◌, refl, sym, ap, ◌∙◌}
use Rattle.std.proofs.lemmas.Bool.{or_parts}
use Rattle.std.specs.List.{AllByRecursion, list_any}
pub use Rattle.cg_maps.proofs.Maps.{all_map}

module _ {A : Type 0} (P : A → Type 0) where
  pub all_left : (f g : List A) → AllByRecursion P (f ++ g) → AllByRecursion P f
  all_left [] g h = tt
  all_left (m ∷ f) g h = (h.0, all_left f g h.1)

  pub all_right : (f g : List A) → AllByRecursion P (f ++ g) → AllByRecursion P g
  all_right [] g h = h
  all_right (m ∷ f) g h = all_right f g h.1

  pub all_join : (f g : List A) → AllByRecursion P f → AllByRecursion P g → AllByRecursion P (f ++ g)
  all_join [] g h k = k
  all_join (m ∷ f) g h k = (h.0, all_join f g h.1 k)

pub all_with : {A : Type 0} {P Q R : A → Type 0} → ((x : A) → P x → Q x → R x) → (xs : List A) → AllByRecursion P xs → AllByRecursion Q xs → AllByRecursion R xs
all_with f [] h k = tt
all_with f (x ∷ xs) h k = (f x h.0 k.0, all_with f xs h.1 k.1)

-- where no item passes, each fails
pub none_pass : {A : Type 0} (p : A → Bool) (xs : List A) → list_any p xs ≡ false → AllByRecursion (λ x. p x ≡ false) xs
none_pass p [] e = tt
none_pass p (x ∷ xs) e = ((or_parts _ _ e).0, none_pass p xs (or_parts _ _ e).1)

any_nothing : {A : Type 0} (xs : List A) → list_any (λ _. false) xs ≡ false
any_nothing [] = refl
any_nothing (x ∷ xs) = any_nothing xs

-- of four tests the inner two are swapped
inner_swapped : (a b c d : Bool) → ((a || b) || (c || d)) ≡ ((a || c) || (b || d))
inner_swapped true b c d = refl
inner_swapped false true true d = refl
inner_swapped false true false d = refl
inner_swapped false false c d = refl

any_either : {A : Type 0} (p q : A → Bool) (xs : List A) → (list_any p xs || list_any q xs) ≡ list_any (λ x. p x || q x) xs
any_either p q [] = refl
any_either p q (x ∷ xs) = inner_swapped (p x) (list_any p xs) (q x) (list_any q xs) ∙ ap (λ b. (p x || q x) || b) (any_either p q xs)

-- some item of the one list and some item of the other pass a test: the lists may be swapped
pub any_swapped : {A B : Type 0} (r : A → B → Bool) (f : List A) (g : List B) → list_any (λ m. list_any (r m) g) f ≡ list_any (λ n. list_any (λ m. r m n) f) g
any_swapped r [] g = sym (any_nothing g)
any_swapped r (m ∷ f) g = ap (λ b. list_any (r m) g || b) (any_swapped r f g) ∙ any_either (r m) (λ n. list_any (λ m. r m n) f) g
