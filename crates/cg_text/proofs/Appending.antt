-- Texts that grow, piece by piece.
use Rattle.std.proofs.Common.{◌≡◌, ℕ, ◌+◌, ◌<◌, Bool, true, false, cond, List, [], ◌∷◌, ◌++◌, map, filter, take, get_or, refl, sym, ap, ◌∙◌, append_assoc, true≢false}
use Rattle.std.specs.List.{join_with_byte}
use Rattle.std.proofs.lemmas.List.{map-append}
use Rattle.std.proofs.lemmas.List.Elements.{filter_more}
use Rattle.cg_maps.specs.FiniteMap.{is_nonempty}
use Rattle.cg_name.specs.declared.controller.Controller.{Controller}
use Rattle.cg_name.specs.declared.controller.Controller.TheVariants.{Cpuset}
use Rattle.cg_text.specs.Controllers.{all_controllers}
use Rattle.cg_text.specs.FileText.{words_text}
use Rattle.cg_cpus.specs.Separated.{separated}

append_none : {A : Type 0} (xs : List A) → xs ++ [] ≡ xs
append_none [] = refl
append_none (x ∷ xs) = ap (λ ys. x ∷ ys) (append_none xs)

-- ---- a word for each controller that passes a test

abbrev pub controller_at : ℕ → Controller
controller_at i = get_or all_controllers i Cpuset

module _ (z : ℕ) (f : Controller → List ℕ) where
  -- the words of controllers, with that byte between them
  abbrev pub joined : List Controller → List ℕ
  joined cs = join_with_byte z (map f cs)

  joined_push : (ws : List (List ℕ)) (w : List ℕ) → join_with_byte z (ws ++ w ∷ []) ≡ join_with_byte z ws ++ separated z (is_nonempty ws) w
  joined_push [] w = refl
  joined_push (x ∷ []) w = refl
  joined_push (x ∷ y ∷ ws) w = ap (λ t. x ++ (z ∷ t)) (joined_push (y ∷ ws) w) ∙ sym (append_assoc x (z ∷ join_with_byte z (y ∷ ws)) (separated z true w))

  mapped_nonempty : (cs : List Controller) → is_nonempty (map f cs) ≡ is_nonempty cs
  mapped_nonempty [] = refl
  mapped_nonempty (c ∷ cs) = refl

  joined_more : (cs : List Controller) (c : Controller) → joined (cs ++ c ∷ []) ≡ joined cs ++ separated z (is_nonempty cs) (f c)
  joined_more cs c =
      ap (join_with_byte z) (map-append f cs (c ∷ []))
      ∙ joined_push (map f cs) (f c)
      ∙ ap (λ b. joined cs ++ separated z b (f c)) (mapped_nonempty cs)

-- a newline behind them, where there are any
pub line_some : (f : Controller → List ℕ) (cs : List Controller) → is_nonempty cs ≡ true → joined 32 f cs ++ 10 ∷ [] ≡ words_text (map f cs)
line_some f [] e = absurd (true≢false (sym e))
line_some f (c ∷ cs) e = refl

pub line_none : (f : Controller → List ℕ) (cs : List Controller) → is_nonempty cs ≡ false → joined 32 f cs ≡ words_text (map f cs)
line_none f [] e = refl
line_none f (c ∷ cs) e = absurd (true≢false e)

nonempty_more : (cs : List Controller) (c : Controller) → is_nonempty (cs ++ c ∷ []) ≡ true
nonempty_more [] c = refl
nonempty_more (d ∷ cs) c = refl

module _ (p : Controller → Bool) where
  -- the first i controllers that pass the test
  abbrev pub first_of : ℕ → List Controller
  first_of i = filter p (take i all_controllers)

module _ (p : Controller → Bool) (i : ℕ) (l : i < 8) where
  with_this : p (controller_at i) ≡ true → first_of p (i + 1) ≡ first_of p i ++ controller_at i ∷ []
  with_this e = filter_more p all_controllers i Cpuset l ∙ ap (λ b. first_of p i ++ cond b (controller_at i ∷ []) []) e

  -- the next controller doesn't pass
  pub without_this : p (controller_at i) ≡ false → first_of p i ≡ first_of p (i + 1)
  without_this e = sym (filter_more p all_controllers i Cpuset l ∙ ap (λ b. first_of p i ++ cond b (controller_at i ∷ []) []) e ∙ append_none (first_of p i))

  pub word_with : (z : ℕ) (f : Controller → List ℕ) (old now new : List ℕ) (b : Bool) → p (controller_at i) ≡ true → now ≡ old ++ joined z f (first_of p i) → b ≡ is_nonempty (first_of p i) → new ≡ now ++ separated z b (f (controller_at i)) → new ≡ old ++ joined z f (first_of p (i + 1))
  word_with z f old now new b holds d e n =
      n ∙ (λ k. d k ++ separated z (e k) (f (controller_at i)))
      ∙ append_assoc old (joined z f (first_of p i)) (separated z (is_nonempty (first_of p i)) (f (controller_at i)))
      ∙ ap (λ t. old ++ t) (sym (joined_more z f (first_of p i) (controller_at i)) ∙ ap (joined z f) (sym (with_this holds)))

  pub some_with : p (controller_at i) ≡ true → true ≡ is_nonempty (first_of p (i + 1))
  some_with holds = sym (ap is_nonempty (with_this holds) ∙ nonempty_more (first_of p i) (controller_at i))
