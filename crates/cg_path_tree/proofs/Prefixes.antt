-- Where there is no node at a prefix of a path, there is none at a longer one.
use Rattle.std.proofs.Common.{◌≡◌, ℕ, ◌++◌, ◌≤◌, true, take, drop, None, IsSome, is_some, sym, ap, subst, ◌∙◌, true≢false, take-append-drop}
use Rattle.std.proofs.lemmas.List.{take-take}
use Rattle.cg_maps.specs.FiniteMap.{FiniteMap, get}
use Rattle.cg_name.specs.Path.{Path, path_cmp, is_prefix}
use Rattle.cg_name.proofs.Packing.{prefix-append}
use Rattle.cg_path_tree.specs.declared.node.NodeKey.{NodeKey}
use Rattle.cg_path_tree.specs.Nodes.{AreClosed}
use Rattle.cg_path_tree.proofs.Finding.{absent_by}

prefix-take : (m d : ℕ) (p : Path) → m ≤ d → is_prefix (take m p) (take d p) ≡ true
prefix-take m d p low =
    let cut : take m p ++ drop m (take d p) ≡ take d p = ap (λ x. x ++ drop m (take d p)) (sym (take-take m d p low)) ∙ take-append-drop m (take d p) in
    subst (λ x. is_prefix (take m p) x ≡ true) cut (prefix-append (take m p) (drop m (take d p)))

pub none_below : (keys : FiniteMap path_cmp NodeKey) (p : Path) (m d : ℕ) → AreClosed keys → m ≤ d → get keys (take m p) ≡ None → get keys (take d p) ≡ None
none_below keys p m d closed low none = absent_by (get keys (take d p)) (λ k there.
    let some : IsSome (get keys (take m p)) = closed (take m p) (take d p) (prefix-take m d p low) (ap is_some there) in
    true≢false (sym some ∙ ap is_some none))
