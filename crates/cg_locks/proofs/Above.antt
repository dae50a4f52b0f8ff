-- The paths with which a path begins, one after another.
use Rattle.std.proofs.Common.{◌≡◌, ℕ, ◌+◌, ◌≤◌, true, drop, length, take, ◌++◌, sym, ap, subst, ◌∙◌, arith}
use Rattle.std.proofs.lemmas.List.{length-append, take-append-drop, take-append-le, take-take, take_all}
use Rattle.cg_name.proofs.Packing.{prefix-append, prefix_rest}
use Rattle.cg_name.specs.Path.{Path, is_prefix}

pub first_names : (p : Path) (d : ℕ) → is_prefix (take d p) p ≡ true
first_names p d = subst (λ r. is_prefix (take d p) r ≡ true) (take-append-drop d p) (prefix-append (take d p) (drop d p))

-- a path with which p begins is that of its first names
pub is_first_names : (q p : Path) → is_prefix q p ≡ true → take (length q) p ≡ q
is_first_names q p e =
    let rest = prefix_rest q p e in
    ap (take (length q)) rest.1 ∙ take-append-le (length q) q rest.0 (omega arith) ∙ take_all (length q) q (omega arith)

pub short_first : (q p : Path) → is_prefix q p ≡ true → length q ≤ length p
short_first q p e =
    let rest = prefix_rest q p e in
    prefix_shorter q rest.0 p rest.1
  where
    prefix_shorter : (q r p : Path) → p ≡ q ++ r → length q ≤ length p
    prefix_shorter q r p is = let all : length p ≡ length q + length r = ap length is ∙ length-append q r in omega (arith, all)

pub prefix_take : (m d : ℕ) (p : Path) → m ≤ d → is_prefix (take m p) (take d p) ≡ true
prefix_take m d p low =
    let cut : take m p ++ drop m (take d p) ≡ take d p = ap (λ x. x ++ drop m (take d p)) (sym (take-take m d p low)) ∙ take-append-drop m (take d p) in
    subst (λ x. is_prefix (take m p) x ≡ true) cut (prefix-append (take m p) (drop m (take d p)))
