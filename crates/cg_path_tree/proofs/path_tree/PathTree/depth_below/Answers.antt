-- One name more than the parent has.
use Rattle.std.proofs.Common.{◌≡◌, ◌∷◌, Bool, true, false, [], length, Option, None, Some, is_some, refl, sym, ap, ◌∙◌, arith, true≢false}
use Rattle.cg_maps.specs.FiniteMap.{FiniteMap, get}
use Rattle.cg_name.specs.Path.{Path, path_cmp, is_root}
use Rattle.cg_path_tree.specs.declared.node.NodeKey.{NodeKey}
use Rattle.cg_path_tree.specs.Nodes.{parent_path, HasParent}
use Rattle.cg_path_tree.proofs.ListChanges.{some_not_none}
use Rattle.cg_path_tree.proofs.Parents.{length-parent}
use Rattle.cg_path_tree.proofs.path_tree.PathTree.depth_below.Goals as goal

module _ (keys : FiniteMap path_cmp NodeKey) (p : Path) (parent : Option NodeKey) (value : is_root p ≡ false → parent ≡ get keys (parent_path p)) where
  below : (k : NodeKey) → (is_root p ≡ true → parent ≡ None) → parent ≡ Some k → (is_root p ≡ false) × (get keys (parent_path p) ≡ Some k)
  below k root is = by (is_root p) refl
    where
      by : (b : Bool) → is_root p ≡ b → (is_root p ≡ false) × (get keys (parent_path p) ≡ Some k)
      by true r = absurd (some_not_none k parent is (root r))
      by false r = (r, sym (value r) ∙ is)

  no_parent : HasParent keys p → parent ≡ None → is_root p ≡ true
  no_parent there is = by (is_root p) refl
    where
      by : (b : Bool) → is_root p ≡ b → is_root p ≡ true
      by true r = r
      by false r = absurd (true≢false (sym (there r) ∙ ap is_some (sym (value r) ∙ is)))

no_names : (p : Path) → is_root p ≡ true → 0 ≡ length p
no_names [] r = refl
no_names (n ∷ p) r = absurd (true≢false (sym r))

pub depth-requires : goal.depth-requires
depth-requires g c = (parent_path c.args.path.now, (below c.args.self.now.keys c.args.path.now c.args.parent c.requires.parent c.in-Some.parent c.requires.root c.in-Some.is).1)

pub overflow_add-result : goal.overflow_add-result
overflow_add-result g c =
    let at = below c.args.self.now.keys c.args.path.now c.args.parent c.requires.parent c.in-Some.parent c.requires.root c.in-Some.is in
    let is = c.depth.ensures (parent_path c.args.path.now) at.1 in
    let longer = length-parent c.args.path.now at.0 in
    let few = c.names.ensures.valid.depth in
    omega (arith, is, longer, few)

pub returns-in-Some : goal.returns-in-Some
returns-in-Some g c =
    let at = below c.args.self.now.keys c.args.path.now c.args.parent c.requires.parent c.in-Some.parent c.requires.root c.in-Some.is in
    let is = c.depth.ensures (parent_path c.args.path.now) at.1 in
    let longer = length-parent c.args.path.now at.0 in
    omega (arith, is, longer)

pub returns-in-None : goal.returns-in-None
returns-in-None g c = no_names c.args.path.now (no_parent c.args.self.now.keys c.args.path.now c.args.parent c.requires.parent c.requires.there c.in-None.is)
