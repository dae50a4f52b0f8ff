-- What is remembered of the path that was looked up last stays so.
use Rattle.std.proofs.Common.{◌≡◌, ◌≢◌, List, length, true, false, Option, None, Some, refl, sym, ap, subst, ◌∙◌, inl, inr, arith}
use Rattle.slab.specs.Slab as slab
use Rattle.cg_maps.specs.FiniteMap.{FiniteMap, empty, from_entries, get, set_at}
use Rattle.cg_maps.proofs.Maps.{get-empty, get_here, get_apart}
use Rattle.cg_name.specs.Order.{path_cmp_total, path_cmp_exact}
use Rattle.cg_name.specs.Path.{Path, path_cmp, is_root}
use Rattle.cg_path_tree.specs.declared.last_found.LastFound.{LastFound}
use Rattle.cg_path_tree.specs.declared.node.Node.{Node}
use Rattle.cg_path_tree.specs.declared.node.NodeKey.{NodeKey}
use Rattle.cg_path_tree.specs.LastFound.{IsTrueOf}
use Rattle.cg_path_tree.specs.Nodes.{Nodes, parent_path, HaveOnePath}
use Rattle.cg_path_tree.specs.Linked.{seen}
use Rattle.cg_path_tree.proofs.Finding.{tell}
use Rattle.cg_path_tree.proofs.Parents.{length-parent}

pub true_of_none : (p : Path) → IsTrueOf empty (record { path = p; node = None; parent = None })
true_of_none p = record { node = sym (get-empty path_cmp p); root = λ r. refl; parent = λ r. sym (get-empty path_cmp (parent_path p)) }

-- of the tree that is seen
pub true_of_seen : {V : Type 0} (es : List (Path × NodeKey)) (nodes : slab.Slab (Node V)) (g : Nodes V) (l : LastFound) → seen es nodes ≡ g → IsTrueOf (from_entries path_cmp es) l → IsTrueOf g.keys l
true_of_seen {V = V} es nodes g l is = subst (λ (v : Nodes V). IsTrueOf v.keys l) is

-- what is known of a path that has no node
pub true_of_absent : {V : Type 0} (es : List (Path × NodeKey)) (nodes : slab.Slab (Node V)) (g : Nodes V) (p : Path) (parent : Option NodeKey) → seen es nodes ≡ g → get g.keys p ≡ None → (is_root p ≡ true → parent ≡ None)
    → (is_root p ≡ false → parent ≡ get g.keys (parent_path p)) → IsTrueOf (from_entries path_cmp es) (record { path = p; node = None; parent = parent })
true_of_absent {V = V} es nodes g p parent is absent root value =
    subst (λ (v : Nodes V). IsTrueOf v.keys (record { path = p; node = None; parent = parent })) (sym is) (record { node = sym absent; root = root; parent = value })

-- the path one name shorter is another
pub parent_differs : (p : Path) → is_root p ≡ false → parent_path p ≢ p
parent_differs p r same = absurd (omega (arith, length-parent p r, ap length same))

pub true_of_more : (keys : FiniteMap path_cmp NodeKey) (l : LastFound) (k : NodeKey) → IsTrueOf keys l → IsTrueOf (set_at keys l.path (Some k)) (record l { node = Some k })
true_of_more keys l k t = record {
  node = sym (get_here path_cmp_total path_cmp_exact keys l.path (Some k));
  root = t.root;
  parent = λ r. t.parent r ∙ sym (get_apart path_cmp_total path_cmp_exact keys l.path (Some k) (parent_path l.path) (parent_differs l.path r));
}

module _ (keys : FiniteMap path_cmp NodeKey) (p : Path) (k : NodeKey) (one : HaveOnePath keys) (there : get keys p ≡ Some k) where
  -- what was found at a path, but for the node that goes
  without : (q : Path) (found left : Option NodeKey) → (found ≡ Some k → left ≡ None) → (found ≢ Some k → left ≡ found) → found ≡ get keys q → left ≡ get (set_at keys p None) q
  without q found left gone other is = elim (tell q p) [
    | inl same ↦ gone (is ∙ ap (get keys) same ∙ there) ∙ sym (ap (get (set_at keys p None)) same ∙ get_here path_cmp_total path_cmp_exact keys p None)
    | inr ne ↦ other (λ has. ne (one q p k (sym is ∙ has) there)) ∙ is ∙ sym (get_apart path_cmp_total path_cmp_exact keys p None q ne)
  ]

  pub true_of_fewer : (l : LastFound) (node parent : Option NodeKey) → (l.node ≡ Some k → node ≡ None) → (l.node ≢ Some k → node ≡ l.node) → (l.parent ≡ Some k → parent ≡ None) → (l.parent ≢ Some k → parent ≡ l.parent)
      → IsTrueOf keys l → IsTrueOf (set_at keys p None) (record { path = l.path; node = node; parent = parent })
  true_of_fewer l node parent gone other up_gone up_other t = record {
    node = without l.path l.node node gone other t.node;
    root = λ r. up_other (λ has. absurd (cc (has, t.root r))) ∙ t.root r;
    parent = λ r. without (parent_path l.path) l.parent parent up_gone up_other (t.parent r);
  }
