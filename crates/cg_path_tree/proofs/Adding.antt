-- What a tree is seen as when a node is put in.
use Rattle.std.proofs.Common.{◌≡◌, ◌≢◌, ℕ, suc, ◌+◌, ◌<◌, Bool, true, false, cond, List, [], ◌∷◌, ◌++◌, length, Option, None, Some, IsSome, is_some, unwrap_or, option_map, refl, sym, ap, subst, ◌∙◌, arith, true≢false, add-zero, length-append}
use Rattle.std.specs.FinMap.Entries.{find}
use Rattle.slab.specs.Slab as slab
use Rattle.cg_maps.specs.FiniteMap.{from_entries, get, set_at}
use Rattle.cg_name.specs.Path.{Path, path_cmp, is_root, is_parent}
use Rattle.cg_path_tree.specs.declared.node.Node.{Node}
use Rattle.cg_path_tree.specs.declared.node.NodeKey.{NodeKey}
use Rattle.cg_path_tree.specs.Nodes.{Nodes, parent_path, HasParent, IsKey}
use Rattle.cg_path_tree.specs.Chains.{path_hash}
use Rattle.cg_path_tree.specs.Linked.{NodeView, children_in, node_in, kin_of, kin_in, value_of, values_at, Writes, AreKin, IsNodeAt, IsTree, IsLinked, seen}
use Rattle.cg_path_tree.proofs.ListChanges.{same_some, some_not_none}
use Rattle.cg_path_tree.proofs.Finding.{find-push}
use Rattle.cg_path_tree.proofs.Parents.{parent_is, not_root, no_child, root_no_child, below_parent, length-parent, count-push, count_none}
use Rattle.cg_path_tree.proofs.Linking.{has_nodes, node_found, still_found, tree-push, tree-write, tree-recount, values-write, keys-changed, values-changed}
use Rattle.cg_path_tree.proofs.Kinship.{kin-root, kin-below}
use Rattle.cg_path_tree.proofs.Seen.{found_is}

pub no_names : (p : Path) → is_root p ≡ true → length p ≡ 0
no_names [] r = refl
no_names (n ∷ p) r = absurd (true≢false (sym r))

given : {A : Type 0} (o : Option A) (d : A) → IsSome o → o ≡ Some (unwrap_or o d)
given None d h = absurd (true≢false (sym h))
given (Some x) d h = refl

module _ {V : Type 0} (es fs : List (Path × NodeKey)) (nodes : slab.Slab (Node V)) (l : IsLinked es nodes) (g : Nodes V) (is : seen es nodes ≡ g) (p : Path) (k : NodeKey) (m : NodeView V) (absent : get g.keys p ≡ None) (below : HasParent g.keys p)
    (entered : fs ≡ es ++ (p, k) ∷ []) (grown put : slab.Slab (Node V)) (kept : (i : NodeKey) → node_in grown i ≡ node_in nodes i) (vacant : node_in nodes k ≡ None) (up : Writes grown put k (Some m))
    (owned : m.own ≡ (p, path_hash p)) (entry : m.entry ≡ length es) (depth : m.depth ≡ length p) (childless : m.children ≡ []) (parent : Option NodeKey) (root : is_root p ≡ true → parent ≡ None) (value : is_root p ≡ false → parent ≡ get g.keys (parent_path p)) (own : m.parent ≡ unwrap_or parent k)
    (place : (kp : NodeKey) (n : NodeView V) → parent ≡ Some kp → node_in nodes kp ≡ Some n → m.place ≡ length n.children) (low : m.place < 4294967295) where
  others : (i : NodeKey) → i ≢ k → node_in put i ≡ node_in nodes i
  others i ne = up.others i ne ∙ kept i

  not_found : find path_cmp p es ≡ None
  not_found = found_is es nodes l g is p ∙ absent

  -- nothing lies below a path that isn't there
  no_children : children_in es p ≡ 0
  no_children = count_none (λ (e : Path × NodeKey). is_parent p e.0) es (λ j e h.
      let x = l.tree.node_of j e h in
      by e x.0 x.2 (is_parent p e.0) refl)
    where
      by : (e : Path × NodeKey) (n : NodeView V) {j : ℕ} → IsNodeAt (children_in es) es j e.0 n → (b : Bool) → is_parent p e.0 ≡ b → b ≡ false
      by e n at true t =
          absurd (some_not_none n.parent (find path_cmp p es) (ap (λ q. find path_cmp q es) (parent_is p e.0 t) ∙ at.parent (not_root p e.0 t)) not_found)
      by e n at false t = refl

  parent_some : is_root p ≡ false → parent ≡ Some m.parent
  parent_some r = given parent k (subst IsSome (sym (value r)) (below r)) ∙ ap Some (sym own)

  parent_found : is_root p ≡ false → find path_cmp (parent_path p) es ≡ Some m.parent
  parent_found r = found_is es nodes l g is (parent_path p) ∙ sym (value r) ∙ parent_some r

  pushed : IsTree (children_in es) (es ++ (p, k) ∷ []) (node_in put)
  pushed =
      tree-push (children_in es) es (node_in nodes) (node_in put) p k m l.tree not_found vacant up.changed others
      owned entry depth (ap length childless ∙ sym no_children) parent_found

  counted : (q : Path) → children_in (es ++ (p, k) ∷ []) q ≡ children_in es q + cond (is_parent q p) 1 0
  counted q = count-push (λ (e : Path × NodeKey). is_parent q e.0) es (p, k)

  not_the_root : (kp : NodeKey) → parent ≡ Some kp → is_root p ≡ false
  not_the_root kp e = by (is_root p) refl
    where
      by : (b : Bool) → is_root p ≡ b → b ≡ false
      by true r = absurd (some_not_none kp parent e (root r))
      by false r = refl

  parent_before : (kp : NodeKey) → parent ≡ Some kp → find path_cmp (parent_path p) es ≡ Some kp
  parent_before kp e = found_is es nodes l g is (parent_path p) ∙ sym (value (not_the_root kp e)) ∙ e

  pub is_new : (kp : NodeKey) → parent ≡ Some kp → kp ≢ k
  is_new kp e = (still_found (children_in es) es (node_in nodes) (node_in put) p k m l.tree not_found vacant up.changed others (parent_path p) kp (parent_before kp e)).1

  parent_after : (kp : NodeKey) → parent ≡ Some kp → find path_cmp (parent_path p) (es ++ (p, k) ∷ []) ≡ Some kp
  parent_after kp e =
      (still_found (children_in es) es (node_in nodes) (node_in put) p k m l.tree not_found vacant up.changed others (parent_path p) kp
      (found_is es nodes l g is (parent_path p) ∙ sym (value (not_the_root kp e)) ∙ e)).0

  pub parent_node : (kp : NodeKey) → parent ≡ Some kp → IsSome (node_in put kp)
  parent_node kp e =
      let x = node_found (children_in es) (es ++ (p, k) ∷ []) (node_in put) pushed (parent_path p) kp (parent_after kp e) in
      ap is_some x.3

  module _ (later : slab.Slab (Node V)) (none : parent ≡ None → later ≡ put)
      (some : (kp : NodeKey) (n : NodeView V) → parent ≡ Some kp → node_in put kp ≡ Some n → Writes put later kp (Some (record n { children = n.children ++ k ∷ [] }))) where
    -- a tree, and the values as they were put
    pub record IsAdded : Type 0 where
      pub tree : IsTree (children_in (es ++ (p, k) ∷ [])) (es ++ (p, k) ∷ []) (node_in later)
      pub kin : AreKin (es ++ (p, k) ∷ []) (kin_in later)
      pub values : (i : NodeKey) → value_of (node_in later i) ≡ value_of (node_in put i)

    is_added : (o : Option NodeKey) → parent ≡ o → IsAdded
    is_added None e =
        let r : is_root p ≡ true = at_root (is_root p) refl in
        let same : (q : Path) → children_in (es ++ (p, k) ∷ []) q ≡ children_in es q = λ q.
        counted q ∙ ap (λ b. children_in es q + cond b 1 0) (root_no_child q p r) ∙ add-zero (children_in es q) in
        record {
          tree = subst (λ s. IsTree (children_in (es ++ (p, k) ∷ [])) (es ++ (p, k) ∷ []) (node_in s)) (sym (none e))
              (tree-recount (children_in es) (children_in (es ++ (p, k) ∷ [])) (es ++ (p, k) ∷ []) (node_in put) pushed same);
          kin = kin-root es (kin_in nodes) l.kin (kin_in later) p k (kin_of m) (ap (option_map kin_of) vacant) not_found childless
              (ap (λ s. kin_in s k) (none e) ∙ ap (option_map kin_of) up.changed)
              (λ i ne. ap (λ s. kin_in s i) (none e) ∙ ap (option_map kin_of) (others i ne)) (depth ∙ no_names p r);
          values = λ i. ap (λ s. value_of (node_in s i)) (none e);
        }
      where
        at_root : (b : Bool) → is_root p ≡ b → is_root p ≡ true
        at_root true r = r
        at_root false r = absurd (some_not_none m.parent parent (parent_some r) e)
    is_added (Some kp) e =
        let x = node_found (children_in es) (es ++ (p, k) ∷ []) (node_in put) pushed (parent_path p) kp (parent_after kp e) in
        let n : NodeView V = x.1 in
        let up' = some kp n e x.3 in
        let r = not_the_root kp e in
        let apart : (i : NodeKey) → i ≢ kp → node_in later i ≡ node_in put i = λ i ne. up'.others i ne in
        let new : kp ≢ k = is_new kp e in
        let before : node_in nodes kp ≡ Some n = sym (others kp new) ∙ x.3 in
        let here : length (n.children ++ k ∷ []) ≡ children_in (es ++ (p, k) ∷ []) (parent_path p) =
        length-append n.children (k ∷ []) ∙ ap (λ c. c + 1) x.4.children ∙ sym (counted (parent_path p) ∙ ap (λ b. children_in es (parent_path p) + cond b 1 0) (below_parent p r)) in
        record {
          tree = tree-write (node_in put) (node_in later) kp n (record n { children = n.children ++ k ∷ [] }) x.3 up'.changed apart (children_in es) (children_in (es ++ (p, k) ∷ [])) (es ++ (p, k) ∷ [])
              (parent_path p) pushed (parent_after kp e) refl refl refl refl here
              (λ q ne. counted q ∙ ap (λ b. children_in es q + cond b 1 0) (no_child q p ne) ∙ add-zero (children_in es q));
          kin = kin-below es (kin_in nodes) l.kin (kin_in later) p k (kin_of m) (ap (option_map kin_of) vacant) not_found childless
              (ap (option_map kin_of) (apart k (λ same. new (sym same)) ∙ up.changed)) kp (kin_of n) (ap (option_map kin_of) before) (ap (option_map kin_of) up'.changed)
              (λ i old ne. ap (option_map kin_of) (apart i ne ∙ others i old)) (same_some m.parent kp (sym (parent_some r) ∙ e))
              (depth ∙ sym (length-parent p r) ∙ ap suc (sym x.4.depth)) (place kp n e before) (omega (arith, place kp n e before));
          values = values-write (node_in put) (node_in later) kp n (record n { children = n.children ++ k ∷ [] }) x.3 up'.changed apart refl;
        }

    added : IsAdded
    added = is_added parent refl

    longer : length fs ≡ length es + 1
    longer =
        ap length entered ∙ length-append es ((p, k) ∷ [])

    pub linked-added : length es < 4294967295 → IsLinked fs later
    linked-added few = record {
      tree = subst (λ xs. IsTree (children_in xs) xs (node_in later)) (sym entered) added.tree;
      kin = subst (λ xs. AreKin xs (kin_in later)) (sym entered) added.kin;
      few = omega (arith, longer);
    }

    pub keys-added : from_entries path_cmp fs ≡ set_at g.keys p (Some k)
    keys-added =
        ap (from_entries path_cmp) entered
        ∙ keys-changed es (es ++ (p, k) ∷ []) (node_in nodes) (node_in later) p (Some k) (Some m.value)
        (has_nodes es (node_in nodes) (children_in es) l.tree)
        (has_nodes (es ++ (p, k) ∷ []) (node_in later) (children_in (es ++ (p, k) ∷ [])) added.tree)
        (find-push es p k not_found)
        ∙ ap (λ v. set_at v.keys p (Some k)) is

    pub values-added : from_entries path_cmp (values_at (node_in later) fs) ≡ set_at g.values p (Some m.value)
    values-added =
        ap (λ xs. from_entries path_cmp (values_at (node_in later) xs)) entered
        ∙ values-changed es (es ++ (p, k) ∷ []) (node_in nodes) (node_in later) p (Some k) (Some m.value)
        (has_nodes es (node_in nodes) (children_in es) l.tree)
        (has_nodes (es ++ (p, k) ∷ []) (node_in later) (children_in (es ++ (p, k) ∷ [])) added.tree)
        (find-push es p k not_found)
        (added.values k ∙ ap value_of up.changed)
        (λ q i ne found.
        let apart = (still_found (children_in es) es (node_in nodes) (node_in put) p k m l.tree not_found vacant up.changed others q i found).1 in
        added.values i ∙ ap value_of (others i apart))
        ∙ ap (λ v. set_at v.values p (Some m.value)) is

  -- the key was that of no node
  pub fresh : ¬ (IsKey g.keys k)
  fresh key =
      let x = node_found (children_in es) es (node_in nodes) l.tree key.0 k (found_is es nodes l g is key.0 ∙ key.1) in
      some_not_none x.1 (node_in nodes k) x.3 vacant

-- nodes that are seen alike are the same tree
module _ {V : Type 0} (es fs : List (Path × NodeKey)) (nodes later : slab.Slab (Node V)) (l : IsLinked es nodes) (same : fs ≡ es) (alike : (i : NodeKey) → node_in later i ≡ node_in nodes i) where
  all_alike : node_in later ≡ node_in nodes
  all_alike = λ j i. alike i j

  pub linked-same : IsLinked fs later
  linked-same =
      let kept : IsLinked es later = record {
        tree = subst (λ f. IsTree (children_in es) es f) (sym all_alike) l.tree;
        kin = subst (λ (f : NodeKey → Option (NodeView V)). AreKin es (λ i. option_map kin_of (f i))) (sym all_alike) l.kin;
        few = l.few;
      } in
      subst (λ xs. IsLinked xs later) (sym same) kept

  pub seen-same : seen fs later ≡ seen es nodes
  seen-same = λ i. record { values = from_entries path_cmp (values_at (all_alike i) (same i)); keys = from_entries path_cmp (same i) }
