-- Prefixes of paths.
use Rattle.std.proofs.Common.{◌≡◌, Bool, true, false, ◌&&◌, ◌||◌, [], ◌∷◌, ◌≢◌, ◌⊎◌, refl, sym, subst, ◌∙◌, true≢false}
use Rattle.std.proofs.lemmas.Bool.{false≢true, and_parts, and_from, or_left}
use Rattle.cg_maps.proofs.Maps as maps
use Rattle.cg_name.specs.Name.{same_name}
use Rattle.cg_name.specs.Order.{path_cmp_total, path_cmp_exact}
use Rattle.cg_name.specs.Path.{Path, same_path, is_prefix, comparable, is_above, is_parent, along}
use Rattle.cg_name.proofs.Packing.{same_name-is, same_name-itself}

pub never : {A : Type 0} → false ≡ true → A
never e = absurd (false≢true e)

pub same_path-itself : (p : Path) → same_path p p ≡ true
unfolding same_path
same_path-itself p = maps.here path_cmp_total path_cmp_exact p

pub same_path-is : (p q : Path) → same_path p q ≡ true → p ≡ q
unfolding same_path
same_path-is p q e = maps.is_same path_cmp_total path_cmp_exact p q e

pub same_path-from : (p q : Path) → p ≡ q → same_path p q ≡ true
same_path-from p q e = subst (λ x. same_path p x ≡ true) e (same_path-itself p)

pub same_path-apart : (p q : Path) → p ≢ q → same_path p q ≡ false
unfolding same_path
same_path-apart p q ne = maps.apart path_cmp_total path_cmp_exact p q ne

pub paths_differ : (p q : Path) → same_path p q ≡ false → p ≢ q
paths_differ p q e is = true≢false (sym (same_path-from p q is) ∙ e)

pub path_cases : (p q : Path) → (p ≡ q) ⊎ (p ≢ q)
path_cases p q = maps.cases path_cmp_total path_cmp_exact p q

pub prefix_itself : (p : Path) → is_prefix p p ≡ true
prefix_itself [] = refl
prefix_itself (n ∷ p) = and_from _ _ (same_name-itself n) (prefix_itself p)

pub prefix_trans : (p q r : Path) → is_prefix p q ≡ true → is_prefix q r ≡ true → is_prefix p r ≡ true
prefix_trans [] q r a b = refl
prefix_trans (n ∷ p) [] r a b = absurd (false≢true a)
prefix_trans (n ∷ p) (m ∷ q) [] a b = absurd (false≢true b)
prefix_trans (n ∷ p) (m ∷ q) (l ∷ r) a b =
    and_from _ _
    (subst (λ x. same_name x l ≡ true) (sym (same_name-is n m (and_parts _ _ a).0)) (and_parts _ _ b).0)
    (prefix_trans p q r (and_parts _ _ a).1 (and_parts _ _ b).1)

pub prefixes_of_one : (p q r : Path) → is_prefix p r ≡ true → is_prefix q r ≡ true → comparable p q ≡ true
prefixes_of_one [] q r a b = refl
prefixes_of_one (n ∷ p) [] r a b = refl
prefixes_of_one (n ∷ p) (m ∷ q) [] a b = absurd (false≢true a)
prefixes_of_one (n ∷ p) (m ∷ q) (l ∷ r) a b =
    let e : n ≡ l = same_name-is n l (and_parts _ _ a).0 in
    let f : m ≡ l = same_name-is m l (and_parts _ _ b).0 in
    let nm : same_name n m ≡ true = subst (λ x. same_name n x ≡ true) (e ∙ sym f) (same_name-itself n) in
    let mn : same_name m n ≡ true = subst (λ x. same_name m x ≡ true) (f ∙ sym e) (same_name-itself m) in
    (λ i. (nm i && is_prefix p q) || (mn i && is_prefix q p)) ∙ prefixes_of_one p q r (and_parts _ _ a).1 (and_parts _ _ b).1

or_swapped : (a b : Bool) → (a || b) ≡ (b || a)
or_swapped true true = refl
or_swapped true false = refl
or_swapped false true = refl
or_swapped false false = refl

pub comparable-swapped : (p q : Path) → comparable p q ≡ comparable q p
comparable-swapped p q = or_swapped (is_prefix p q) (is_prefix q p)

pub comparable_down : (p q : Path) → is_prefix p q ≡ true → comparable p q ≡ true
comparable_down p q a = or_left _ _ a

pub comparable_up : (p q : Path) → is_prefix q p ≡ true → comparable p q ≡ true
comparable_up p q a = comparable-swapped p q ∙ or_left _ _ a

pub above-prefix : (p q : Path) → is_above p q ≡ true → is_prefix p q ≡ true
above-prefix [] q a = refl
above-prefix (n ∷ p) [] a = a
above-prefix (n ∷ p) (m ∷ q) a = and_from _ _ (and_parts _ _ a).0 (above-prefix p q (and_parts _ _ a).1)

pub parent-prefix : (p q : Path) → is_parent p q ≡ true → is_prefix p q ≡ true
parent-prefix [] q a = refl
parent-prefix (n ∷ p) [] a = a
parent-prefix (n ∷ p) (m ∷ q) a = and_from _ _ (and_parts _ _ a).0 (parent-prefix p q (and_parts _ _ a).1)

-- what holds at each proper prefix gives equal lists
pub along_same {ℓ} : {A : Type ℓ} (f g : Path → A) (p : Path) → ((a : Path) → is_above a p ≡ true → f a ≡ g a) → along f p ≡ along g p
along_same f g [] h = refl
along_same f g (n ∷ p) h = λ i. h [] refl i ∷ along_same (λ q. f (n ∷ q)) (λ q. g (n ∷ q)) p (λ a e. h (n ∷ a) (and_from _ _ (same_name-itself n) e)) i
