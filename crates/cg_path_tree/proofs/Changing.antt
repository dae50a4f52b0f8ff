-- What a tree is seen as when a node is written, put in or taken out.
use Rattle.std.proofs.Common.{◌≡◌, ◌≢◌, zero, suc, ◌==◌, Bool, true, false, cond, List, [], ◌∷◌, length, Contains, Some, option_map, refl, sym, ap, subst, ◌∙◌, inl, inr, arith, true≢false, eq-eqb}
use Rattle.std.specs.List.{AllByRecursion}
use Rattle.std.specs.Ordering.{eq_by_cmp}
use Rattle.std.specs.FinMap.Entries.{find}
use Rattle.std.proofs.lemmas.Bool.{eqb-true}
use Rattle.slab.specs.Slab as slab
use Rattle.cg_maps.specs.FiniteMap.{FiniteMap, from_entries, get, set_at, entries}
use Rattle.cg_maps.proofs.Maps.{each_entry, entries_held}
use Rattle.cg_name.specs.Order.{path_cmp_total, path_cmp_exact}
use Rattle.cg_name.specs.Path.{Path, path_cmp}
use Rattle.cg_path_tree.specs.declared.node.Node.{Node}
use Rattle.cg_path_tree.specs.declared.node.NodeKey.{NodeKey}
use Rattle.cg_path_tree.specs.Nodes.{Nodes, path_in, path_of, with_value, HaveOnePath}
use Rattle.cg_path_tree.specs.Linked.{NodeView, children_in, node_in, kin_of, kin_in, value_of, values_at, Writes, AreKin, IsTree, IsLinked, seen}
use Rattle.cg_path_tree.proofs.Finding.{tell, itself, differs}
use Rattle.cg_path_tree.proofs.Linking.{cases_key, has_nodes, tree-write, values-changed, one_path}
use Rattle.cg_path_tree.proofs.Seen.{found_is, node_at}

-- ---- the path of a key

path_in-is : (keys : FiniteMap path_cmp NodeKey) (k : NodeKey) (p : Path) → HaveOnePath keys → get keys p ≡ Some k → (es : List (Path × NodeKey)) → AllByRecursion (λ e. get keys e.0 ≡ Some e.1) es → Contains es (p, k) → path_in es k ≡ p
path_in-is keys k p one h [] all has = absurd (omega (arith, has.1))
path_in-is keys k p one h (e ∷ es) all has = by (k.0 == e.1.0) refl has (path_in-is keys k p one h es all.1)
  where
    by : (b : Bool) → (k.0 == e.1.0) ≡ b → Contains (e ∷ es) (p, k) → (Contains es (p, k) → path_in es k ≡ p) → cond b e.0 (path_in es k) ≡ p
    by true t has rest =
        let same : e.1 ≡ k = λ i. record { 0 = sym (eqb-true k.0 e.1.0 t) i } in
        one e.0 p k (all.0 ∙ ap Some same) h
    by false t (zero, low, is) rest = absurd (true≢false (sym (eq-eqb k.0 e.1.0 (ap (λ (f : Path × NodeKey). f.1.0) (sym is))) ∙ t))
    by false t (suc j, low, is) rest = rest (j, omega arith, is)

pub path_of-is : (keys : FiniteMap path_cmp NodeKey) (k : NodeKey) (p : Path) → HaveOnePath keys → get keys p ≡ Some k → path_of keys k ≡ p
path_of-is keys k p one h =
    let listed = entries_held path_cmp_total path_cmp_exact keys in
    path_in-is keys k p one h (entries keys) (each_entry path_cmp_total keys) ((listed.held p k).1 h)

module _ {V : Type 0} (es : List (Path × NodeKey)) (nodes : slab.Slab (Node V)) (l : IsLinked es nodes) (g : Nodes V) (is : seen es nodes ≡ g) where
  -- ---- a value is written

  module _ (later : slab.Slab (Node V)) (p : Path) (k : NodeKey) (n m : NodeView V) (h : get g.keys p ≡ Some k) (at : node_in nodes k ≡ Some n) (up : Writes nodes later k (Some m))
      (owned : m.own ≡ n.own) (entry : m.entry ≡ n.entry) (depth : m.depth ≡ n.depth) (parent : m.parent ≡ n.parent) (place : m.place ≡ n.place) (children : m.children ≡ n.children) where
    others : (i : NodeKey) → i ≢ k → node_in later i ≡ node_in nodes i
    others i ne = up.others i ne

    there : find path_cmp p es ≡ Some k
    there = found_is es nodes l g is p ∙ h

    tree_written : IsTree (children_in es) es (node_in later)
    tree_written =
        tree-write (node_in nodes) (node_in later) k n m at up.changed others (children_in es) (children_in es) es p l.tree there owned entry depth parent
        (ap length children ∙ (node_at es nodes l g is p k n h at).2.children) (λ q ne. refl)

    same_kin : kin_of m ≡ kin_of n
    same_kin = λ i. record { parent = parent i; depth = depth i; place = place i; children = children i }

    kin_kept : (i : NodeKey) → kin_in later i ≡ kin_in nodes i
    kin_kept i = elim (cases_key i k) [
      | inl same ↦ ap (kin_in later) same ∙ ap (option_map kin_of) up.changed ∙ ap Some same_kin ∙ sym (ap (option_map kin_of) at) ∙ ap (kin_in nodes) (sym same)
      | inr ne ↦ ap (option_map kin_of) (others i ne)
    ]

    pub linked-written : IsLinked es later
    linked-written =
        let same : kin_in later ≡ kin_in nodes = λ j i. kin_kept i j in
        record { tree = tree_written; kin = subst (AreKin es) (sym same) l.kin; few = l.few }

    found_again : (q : Path) → find path_cmp q es ≡ cond (eq_by_cmp path_cmp q p) (Some k) (find path_cmp q es)
    found_again q = elim (tell q p) [
      | inl same ↦ ap (λ r. find path_cmp r es) same ∙ there ∙ sym (ap (λ b. cond b (Some k) (find path_cmp q es)) (ap (λ r. eq_by_cmp path_cmp r p) same ∙ itself p))
      | inr ne ↦ sym (ap (λ b. cond b (Some k) (find path_cmp q es)) (differs q p ne))
    ]

    values_written : from_entries path_cmp (values_at (node_in later) es) ≡ set_at (from_entries path_cmp (values_at (node_in nodes) es)) p (Some m.value)
    values_written =
        values-changed es es (node_in nodes) (node_in later) p (Some k) (Some m.value)
        (has_nodes es (node_in nodes) (children_in es) l.tree) (has_nodes es (node_in later) (children_in es) tree_written) found_again (ap value_of up.changed)
        (λ q i ne found. ap value_of (others i (λ same. ne (one_path (children_in es) es (node_in nodes) l.tree q p k (found ∙ ap Some same) there))))

    pub seen-written : seen es later ≡ with_value g p m.value
    seen-written = (λ i. record { values = values_written i; keys = from_entries path_cmp es }) ∙ ap (λ v. with_value v p m.value) is
