-- Marks that do not clash, and the marks that stand along a path.
use Rattle.std.proofs.Common.{◌≡◌, ℕ, true, false, ◌==◌, List, [], ◌∷◌, refl, sym, subst, ◌∙◌}
use Rattle.std.proofs.lemmas.Bool.{false≢true, and_parts, and_from}
use Rattle.std.specs.Cmp.{nat_eq_equiv, eq_by_cmp_equiv}
use Rattle.std.specs.List.{AllByRecursion, list_any}
use Rattle.cg_name.specs.Order.{path_cmp_total}
use Rattle.cg_name.specs.Path.{Path, same_path, is_above, along}
use Rattle.cg_model.specs.Footprint.{Mark, X, S, N, Pid, Count, clash, clashes, joined_marks}
use Rattle.cg_model_laws.proofs.Lists.{all_map, all_left, all_right, all_join, none_pass, any_swapped}
use Rattle.cg_name.proofs.Packing.{same_name-is, same_name-itself}
use Rattle.cg_model_laws.proofs.Paths.{comparable-swapped}

-- no mark of f clashes with m
abbrev pub Apart : List Mark → Mark → Type 0
Apart f m = AllByRecursion (λ a. clash a m ≡ false) f

-- none with one of g
abbrev pub AllApart : List Mark → List Mark → Type 0
AllApart f g = AllByRecursion (Apart f) g

same_number-swapped : (k l : ℕ) → (k == l) ≡ (l == k)
same_number-swapped k l = nat_eq_equiv.symm k l

pub same_path-swapped : (p q : Path) → same_path p q ≡ same_path q p
unfolding same_path
same_path-swapped p q = (eq_by_cmp_equiv path_cmp_total).symm p q

pub clash-swapped : (m n : Mark) → clash m n ≡ clash n m
clash-swapped (X p) (X q) = comparable-swapped p q
clash-swapped (X p) (S q) = comparable-swapped p q
clash-swapped (S p) (X q) = comparable-swapped p q
clash-swapped (Pid k) (Pid l) = same_number-swapped k l
clash-swapped (Count a) (Count b) = same_path-swapped a b
clash-swapped (N p) (X q) = refl
clash-swapped m n = refl

pub clashes-swapped : (f g : List Mark) → clashes f g ≡ clashes g f
clashes-swapped f g = any_swapped clash f g ∙ (λ i. list_any (λ n. list_any (λ m. clash-swapped m n i) f) g)

-- the test says it of each two marks
pub apart_from_test : (f g : List Mark) → clashes f g ≡ false → AllApart f g
apart_from_test f g e = all_map (λ m h. none_pass (λ a. clash a m) f h) g (none_pass (λ m. list_any (λ a. clash a m) f) g (sym (any_swapped clash f g) ∙ e))

-- what holds of all that stands along a path holds of what stands at each path above it
pub all_along : (P : Mark → Type 0) (f : Path → List Mark) (p a : Path) → is_above a p ≡ true → AllByRecursion P (joined_marks (along f p)) → AllByRecursion P (f a)
all_along P f [] a e h = absurd (false≢true e)
all_along P f (n ∷ p) [] e h = all_left P (f []) _ h
all_along P f (n ∷ p) (m ∷ a) e h =
    subst (λ x. AllByRecursion P (f (x ∷ a))) (sym (same_name-is m n (and_parts _ _ e).0)) (all_along P (λ q. f (n ∷ q)) p a (and_parts _ _ e).1 (all_right P (f []) _ h))

pub all_along-from : (P : Mark → Type 0) (f : Path → List Mark) (p : Path) → ((a : Path) → is_above a p ≡ true → AllByRecursion P (f a)) → AllByRecursion P (joined_marks (along f p))
all_along-from P f [] h = tt
all_along-from P f (n ∷ p) h = all_join P (f []) _ (h [] refl) (all_along-from P (λ q. f (n ∷ q)) p (λ a e. h (n ∷ a) (and_from _ _ (same_name-itself n) e)))
