-- What holds from a path up to the root.
use Rattle.std.proofs.Common.{◌≡◌, false, true, [], ◌∷◌, Option, is_some, refl, sym, ap, subst, ◌∙◌, true≢false}
use Rattle.std.proofs.lemmas.Bool.{false≢true, and_parts, and_from}
use Rattle.cg_name.specs.Name.{Name}
use Rattle.cg_name.specs.Path.{Path, is_above, is_parent, is_root, along}
use Rattle.cg_name.proofs.Packing.{same_name-is, same_name-itself}
use Rattle.cg_model.specs.Tree.{last_of}
use Rattle.cg_path_tree.specs.Nodes.{parent_path}
use Rattle.cg_path_tree.proofs.Parents.{below_parent, parent_is}

-- what holds of a path holds of its parent
abbrev pub HoldsOfParents : (Path → Type 0) → Type 0
HoldsOfParents P = (p q : Path) → is_parent p q ≡ true → P q → P p

-- what holds of a path holds of each path above it
abbrev pub HoldsAbove : (Path → Type 0) → Type 0
HoldsAbove P = (p q : Path) → is_above p q ≡ true → P q → P p

below : (P : Path → Type 0) (n : Name) → HoldsOfParents P → HoldsOfParents (λ r. P (n ∷ r))
below P n h p q e = h (n ∷ p) (n ∷ q) (and_from _ _ (same_name-itself n) e)

above_below : (P : Path → Type 0) (n : Name) → HoldsAbove P → HoldsAbove (λ r. P (n ∷ r))
above_below P n h p q e = h (n ∷ p) (n ∷ q) (and_from _ _ (same_name-itself n) e)

to_root : (P : Path → Type 0) → HoldsOfParents P → (q : Path) → P q → P []
to_root P h [] v = v
to_root P h (n ∷ q) v = h [] (n ∷ []) refl (to_root (λ r. P (n ∷ r)) (below P n h) q v)

-- step by step to each path above
pub from_parents : (P : Path → Type 0) → HoldsOfParents P → HoldsAbove P
from_parents P h p [] e v = absurd (false≢true e)
from_parents P h [] (m ∷ q) e v = to_root P h (m ∷ q) v
from_parents P h (n ∷ p) (m ∷ q) e v =
    let same : m ≡ n = sym (same_name-is n m (and_parts _ _ e).0) in
    subst (λ k. P (k ∷ p)) same (from_parents (λ r. P (m ∷ r)) (below P m h) p q (and_parts _ _ e).1 v)

-- where there is a parent, what holds where something is found holds above its children
pub above_child : {X : Type 0} (f : Path → Option X) (P : Path → Type 0) → ((r : Path) → is_some (f r) ≡ true → P r) → HoldsAbove P
    → (p q : Path) → is_above p q ≡ true → is_some (last_of (along f q)) ≡ true → P p
above_child f P found h p [] e s = absurd (false≢true e)
above_child f P found h [] (m ∷ []) e s = found [] s
above_child f P found h (n ∷ p) (m ∷ []) e s = absurd (false≢true (and_parts _ _ e).1)
above_child f P found h [] (m ∷ (k ∷ q)) e s =
    h [] (m ∷ []) refl (above_child (λ r. f (m ∷ r)) (λ r. P (m ∷ r)) (λ r. found (m ∷ r)) (above_below P m h) [] (k ∷ q) refl s)
above_child f P found h (n ∷ p) (m ∷ (k ∷ q)) e s =
    let same : m ≡ n = sym (same_name-is n m (and_parts _ _ e).0) in
    subst (λ l. P (l ∷ p)) same (above_child (λ r. f (m ∷ r)) (λ r. P (m ∷ r)) (λ r. found (m ∷ r)) (above_below P m h) p (k ∷ q) (and_parts _ _ e).1 s)

-- the last of what stands along a path is the parent's
pub parent_along : {X : Type 0} (f : Path → Option X) (p : Path) → is_root p ≡ false → last_of (along f p) ≡ f (parent_path p)
parent_along f [] h = absurd (true≢false h)
parent_along f (n ∷ []) h = refl
parent_along f (n ∷ (m ∷ q)) h =
    let next : n ∷ parent_path (m ∷ q) ≡ parent_path (n ∷ (m ∷ q)) = parent_is (n ∷ parent_path (m ∷ q)) (n ∷ (m ∷ q)) (and_from _ _ (same_name-itself n) (below_parent (m ∷ q) refl)) in
    parent_along (λ r. f (n ∷ r)) (m ∷ q) refl ∙ ap f next
