-- What is seen of a tree says what its nodes hold.
use Rattle.std.proofs.Common.{◌≡◌, ◌≢◌, ◌↔◌, ℕ, zero, suc, ◌-◌, ◌<◌, ◌≤◌, Contains, Bool, true, false, List, [], ◌∷◌, length, take, Option, None, Some, IsSome, is_some, option_map, not, inl, inr, refl, sym, ap, subst, ◌∙◌, arith, length-append, length-take, true≢false}
use Rattle.std.specs.List.{slice_get}
use Rattle.std.specs.FinMap.Entries.{find}
use Rattle.std.proofs.Math.Seq.{take-append_seam, take-length}
use Rattle.std.proofs.lemmas.List.{take-take}
use Rattle.std.proofs.lemmas.Bool.{cases_eq}
use Rattle.cg_name.proofs.Packing.{prefix_rest}
use Rattle.slab.specs.Slab as slab
use Rattle.cg_maps.specs.FiniteMap.{get, len, retain}
use Rattle.cg_name.specs.Path.{Path, path_cmp, is_root, is_parent}
use Rattle.cg_path_tree.specs.declared.node.Node.{Node}
use Rattle.cg_path_tree.specs.declared.node.NodeKey.{NodeKey}
use Rattle.cg_path_tree.specs.Nodes.{Nodes, parent_path, AreClosed, IsKey, IsLeaf, IsRightBelow, HaveOnePath}
use Rattle.cg_path_tree.specs.Chains.{path_hash}
use Rattle.cg_path_tree.specs.Linked.{NodeView, Kin, children_in, node_view, node_in, kin_of, kin_in, value_of, IsNodeAt, IsLinked, seen}
use Rattle.cg_path_tree.proofs.ListChanges.{same_some, some_not_none, contains_at, at_contained}
use Rattle.cg_path_tree.proofs.Finding.{get_by_find, found_at, standing_of, absent_by}
use Rattle.cg_path_tree.proofs.Parents.{none_counted, below_parent, not_root, parent_is}
use Rattle.cg_path_tree.proofs.Views.{some_there, there_mapped}
use Rattle.cg_path_tree.proofs.Counting.{count_is, len-from_entries, distinct_from_once}
use Rattle.cg_path_tree.proofs.Linking.{value_there, has_nodes, get-values, node_found, node_there, one_path}

module _ {V : Type 0} (es : List (Path × NodeKey)) (nodes : slab.Slab (Node V)) (l : IsLinked es nodes) (g : Nodes V) (is : seen es nodes ≡ g) where
  abbrev count : Path → ℕ
  count = children_in es

  pub found_is : (p : Path) → find path_cmp p es ≡ get g.keys p
  found_is p = sym (get_by_find es p) ∙ ap (λ v. get v.keys p) is

  first_found : (xs : List (Path × NodeKey)) (k : NodeKey) → slice_get xs 0 ≡ Some ([], k) → find path_cmp [] xs ≡ Some k
  first_found [] k h = absurd (some_not_none ([], k) None h refl)
  first_found (x ∷ xs) k h = ap (λ (y : Path × NodeKey). find path_cmp [] (y ∷ xs)) (same_some x ([], k) h)

  -- a node whose entry stands first, and has no names, is the root's
  pub first_is_root : (p : Path) (k : NodeKey) → slice_get es 0 ≡ Some (p, k) → length p ≡ 0 → Some k ≡ get g.keys []
  first_is_root [] k there none = sym (first_found es k there) ∙ found_is []
  first_is_root (n ∷ p) k there none = absurd (omega arith)

  pub value_is : (p : Path) → value_there (node_in nodes) (find path_cmp p es) ≡ get g.values p
  value_is p = sym (get-values (node_in nodes) es (has_nodes es (node_in nodes) count l.tree) p) ∙ ap (λ v. get v.values p) is

  -- the node with the key of a path
  pub node_of_key : (p : Path) (k : NodeKey) → get g.keys p ≡ Some k → (n : NodeView V) × (node_in nodes k ≡ Some n)
  node_of_key p k h = let x = node_found count es (node_in nodes) l.tree p k (found_is p ∙ h) in (x.1, x.3)

  pub key_there : (k : NodeKey) → IsKey g.keys k → IsSome (node_in nodes k)
  key_there k key = let x = node_of_key key.0 k key.1 in ap is_some x.1

  pub node_at : (p : Path) (k : NodeKey) (n : NodeView V) → get g.keys p ≡ Some k → node_in nodes k ≡ Some n → (j : ℕ) × (slice_get es j ≡ Some (p, k)) × IsNodeAt count es j p n
  node_at p k n h at = node_there count es (node_in nodes) l.tree p k n (found_is p ∙ h) at

  pub value_at : (p : Path) (k : NodeKey) (n : NodeView V) → get g.keys p ≡ Some k → node_in nodes k ≡ Some n → get g.values p ≡ Some n.value
  value_at p k n h at = sym (value_is p) ∙ ap (value_there (node_in nodes)) (found_is p ∙ h) ∙ ap value_of at

  pub depth_at : (p : Path) (k : NodeKey) (n : NodeView V) → get g.keys p ≡ Some k → node_in nodes k ≡ Some n → n.depth ≡ length p
  depth_at p k n h at = (node_at p k n h at).2.depth

  pub parent_at : (p : Path) (k : NodeKey) (n : NodeView V) → get g.keys p ≡ Some k → node_in nodes k ≡ Some n → is_root p ≡ false → Some n.parent ≡ get g.keys (parent_path p)
  parent_at p k n h at r = sym ((node_at p k n h at).2.parent r) ∙ found_is (parent_path p)

  pub children_at : (p : Path) (k : NodeKey) (n : NodeView V) → get g.keys p ≡ Some k → node_in nodes k ≡ Some n → length n.children ≡ len (retain g.keys (is_parent p))
  children_at p k n h at = (node_at p k n h at).2.children ∙ count_is (is_parent p) es l.tree.once ∙ ap (λ v. len (retain v.keys (is_parent p))) is

  pub leaf_at : (p : Path) (k : NodeKey) (n : NodeView V) → get g.keys p ≡ Some k → node_in nodes k ≡ Some n → length n.children ≡ 0 → IsLeaf g.keys p
  leaf_at p k n h at none q below = absent_by (get g.keys q) (λ x there.
      let at_q = standing_of es q x (found_is q ∙ there) in
      let zero_count : count p ≡ 0 = sym ((node_at p k n h at).2.children) ∙ none in
      true≢false (sym below ∙ none_counted (λ (e : Path × NodeKey). is_parent p e.0) es zero_count at_q.0 (q, x) at_q.1))

  pub len_is : len g.keys ≡ length es
  len_is = ap (λ v. len v.keys) (sym is) ∙ len-from_entries es (distinct_from_once es l.tree.once)

  pub have_one_path : HaveOnePath g.keys
  have_one_path p q k a b = one_path count es (node_in nodes) l.tree p q k (found_is p ∙ a) (found_is q ∙ b)

  both_so : (o : Option NodeKey) → ((k : NodeKey) → o ≡ Some k → IsSome (node_in nodes k)) → is_some (value_there (node_in nodes) o) ≡ is_some o
  both_so None h = refl
  both_so (Some k) h = valued (node_in nodes k) (h k refl)
    where
      valued : (o : Option (NodeView V)) → IsSome o → is_some (value_of o) ≡ true
      valued None h = h
      valued (Some n) h = refl

  pub both_there : (p : Path) → is_some (get g.values p) ≡ is_some (get g.keys p)
  both_there p =
      ap is_some (sym (value_is p)) ∙ both_so (find path_cmp p es) (λ k h. key_there k (p, sym (found_is p) ∙ h)) ∙ ap is_some (found_is p)

  -- ---- where there is a node, there is one at each prefix

  parent_there : (p : Path) → IsSome (get g.keys p) → is_root p ≡ false → IsSome (get g.keys (parent_path p))
  parent_there p h r = by (get g.keys p) refl h
    where
      by : (o : Option NodeKey) → get g.keys p ≡ o → IsSome o → IsSome (get g.keys (parent_path p))
      by None e some = absurd (true≢false (sym some))
      by (Some k) e some = let x = node_of_key p k e in ap is_some (sym (parent_at p k x.0 e x.1 r))

  -- the path that is so many names shorter
  upward : (d : ℕ) (q : Path) → IsSome (get g.keys q) → IsSome (get g.keys (take (length q - d) q))
  upward zero q h = subst (λ p. IsSome (get g.keys p)) (sym (whole q)) h
    where
      whole : (q : Path) → take (length q - 0) q ≡ q
      whole q = let same : length q - 0 ≡ length q = omega arith in ap (λ n. take n q) same ∙ take-length q
  upward (suc d) q h = by (is_root (take (length q - d) q)) refl (upward d q h)
    where
      p : Path
      p = take (length q - d) q

      shorter : take (length q - suc d) q ≡ parent_path p
      shorter =
          let low : length p - 1 ≡ length q - suc d = omega (arith, length-take (length q - d) q) in
          let fits : length q - suc d ≤ length q - d = omega arith in
          sym (take-take (length q - suc d) (length q - d) q fits) ∙ ap (λ n. take n p) (sym low)

      root_stays : (x : Path) → is_root x ≡ true → parent_path x ≡ x
      root_stays [] r = refl
      root_stays (m ∷ x) r = absurd (true≢false (sym r))

      by : (b : Bool) → is_root p ≡ b → IsSome (get g.keys p) → IsSome (get g.keys (take (length q - suc d) q))
      by true r some = subst (λ x. IsSome (get g.keys x)) (sym (root_stays p r) ∙ sym shorter) some
      by false r some = subst (λ x. IsSome (get g.keys x)) (sym shorter) (parent_there p some r)

  pub prefix_there : (d : ℕ) (q : Path) → d ≤ length q → IsSome (get g.keys q) → IsSome (get g.keys (take d q))
  prefix_there d q low h =
      let back : length q - (length q - d) ≡ d = omega arith in
      subst (λ n. IsSome (get g.keys (take n q))) back (upward (length q - d) q h)

  pub are_closed : AreClosed g.keys
  are_closed p q prefix h =
      let rest = prefix_rest p q prefix in
      let first : take (length p) q ≡ p = ap (take (length p)) rest.1 ∙ take-append_seam p rest.0 in
      let low : length p ≤ length q = omega (arith, ap length rest.1, length-append p rest.0) in
      subst (λ x. IsSome (get g.keys x)) first (prefix_there (length p) q low h)

  -- ---- the root is the path with no name

  pub root_by_depth : (p : Path) (k : NodeKey) (n : NodeView V) → get g.keys p ≡ Some k → node_in nodes k ≡ Some n → n.depth ≡ 0 → is_root p ≡ true
  root_by_depth p k n h at none = empty p (sym (depth_at p k n h at) ∙ none)
    where
      empty : (x : Path) → length x ≡ 0 → is_root x ≡ true
      empty [] e = refl
      empty (m ∷ x) e = absurd (omega arith)

  pub deep_by_depth : (p : Path) (k : NodeKey) (n : NodeView V) → get g.keys p ≡ Some k → node_in nodes k ≡ Some n → n.depth ≢ 0 → is_root p ≡ false
  deep_by_depth p k n h at some = nonempty p (λ e. some (depth_at p k n h at ∙ e))
    where
      nonempty : (x : Path) → length x ≢ 0 → is_root x ≡ false
      nonempty [] e = absurd (e refl)
      nonempty (m ∷ x) e = refl

  -- ---- the path of a node

  pub path_at : (p : Path) (k : NodeKey) (n : NodeView V) → get g.keys p ≡ Some k → node_in nodes k ≡ Some n → n.own.0 ≡ p
  path_at p k n h at = ap (λ (o : Path × ℕ). o.0) (node_at p k n h at).2.own

  pub own_found : (k : NodeKey) (n : NodeView V) → IsKey g.keys k → node_in nodes k ≡ Some n → get g.keys n.own.0 ≡ Some k
  own_found k n key at = ap (get g.keys) (path_at key.0 k n key.1 at) ∙ key.1

  pub hash_there : (k : NodeKey) (n : NodeView V) → IsKey g.keys k → node_in nodes k ≡ Some n → n.own.1 ≡ path_hash n.own.0
  hash_there k n key at =
      let x = node_at key.0 k n key.1 at in
      ap (λ (o : Path × ℕ). o.1) x.2.own ∙ ap (λ (o : Path × ℕ). path_hash o.0) (sym x.2.own)

  -- what a node says of its parent is so
  pub parent_so : (p : Path) (k : NodeKey) (n : NodeView V) → get g.keys p ≡ Some k → node_in nodes k ≡ Some n → (o : Option NodeKey) → (n.depth ≡ 0 → o ≡ None) → (n.depth ≢ 0 → o ≡ Some n.parent)
      → (is_some o ≡ not (is_root p)) × (is_root p ≡ false → o ≡ get g.keys (parent_path p))
  parent_so p k n h at o root value = elim (cases_eq n.depth 0) [
    | inl none ↦
        let r = root_by_depth p k n h at none in
        (ap is_some (root none) ∙ sym (ap not r), λ deep. absurd (true≢false (sym r ∙ deep)))
    | inr some ↦
        let r = deep_by_depth p k n h at some in
        (ap is_some (value some) ∙ sym (ap not r), λ deep. value some ∙ parent_at p k n h at deep)
  ]

  -- each entry has a node, and each value is that of an entry's node
  pub entry_of_value : (p : Path) (v : V) → get g.values p ≡ Some v → (j : ℕ) × (k : NodeKey) × (n : NodeView V) × (slice_get es j ≡ Some (p, k)) × (node_in nodes k ≡ Some n) × (n.value ≡ v)
  entry_of_value p v h =
      let k = some_there (get g.keys p) (sym (both_there p) ∙ ap is_some h) in
      let n = node_of_key p k.0 k.1 in
      let x = node_at p k.0 n.0 k.1 n.1 in
      (x.0, k.0, n.0, x.1, n.1, same_some n.0.value v (sym (value_at p k.0 n.0 k.1 n.1) ∙ h))

  pub entry_found : (j : ℕ) (e : Path × NodeKey) → slice_get es j ≡ Some e → get g.keys e.0 ≡ Some e.1
  entry_found j e there = sym (found_is e.0) ∙ found_at es l.tree.once j e there

  pub key_of_entry : (j : ℕ) (e : Path × NodeKey) → slice_get es j ≡ Some e → IsKey g.keys e.1
  key_of_entry j e there = (e.0, entry_found j e there)

  -- ---- a key is that of a node where there is one under it

  pub key_from_node : (k : NodeKey) → IsSome (slab.get nodes k.0) → IsKey g.keys k
  key_from_node k there =
      let n = some_there (slab.get nodes k.0) there in
      let o = l.kin.owned k (kin_of (node_view n.0)) (ap (λ o. option_map kin_of (option_map node_view o)) n.1) in
      (o.0, sym (found_is o.0) ∙ o.1)

  pub no_key : (k : NodeKey) → node_in nodes k ≡ None → ¬ (IsKey g.keys k)
  no_key k none key = true≢false (sym (key_there k key) ∙ ap is_some none)

  pub slot_there : (k : NodeKey) (number : ℕ) → number ≡ k.0 → IsKey g.keys k → IsSome (slab.get nodes number)
  slot_there k number is key = subst (λ i. IsSome (slab.get nodes i)) (sym is) (there_mapped node_view (slab.get nodes k.0) (key_there k key))

  -- ---- the children of a node

  kin_at : (k : NodeKey) (n : NodeView V) → node_in nodes k ≡ Some n → kin_in nodes k ≡ Some (kin_of n)
  kin_at k n at = ap (option_map kin_of) at

  no_name : (q : Path) (d : ℕ) → length q ≡ suc d → is_root q ≡ false
  no_name [] d e = absurd (omega arith)
  no_name (m ∷ q) d e = refl

  some_name : (q : Path) → is_root q ≡ false → length q ≢ 0
  some_name [] r = absurd (true≢false r)
  some_name (m ∷ q) r = λ e. absurd (omega arith)

  listed_below : (p : Path) (k : NodeKey) (n : NodeView V) → get g.keys p ≡ Some k → node_in nodes k ≡ Some n → (c : NodeKey) → Contains n.children c → IsRightBelow g.keys p c
  listed_below p k n h at c has =
      let x = at_contained n.children c has in
      let y = l.kin.child k c (kin_of n) x.0 (kin_at k n at) x.1 in
      let o = l.kin.owned c y.own y.there in
      let z = node_found count es (node_in nodes) l.tree o.0 c o.1 in
      let m : NodeView V = z.1 in
      let own : y.own ≡ kin_of m = same_some y.own (kin_of m) (sym y.there ∙ kin_at c m z.3) in
      let r : is_root o.0 ≡ false = no_name o.0 n.depth (sym z.4.depth ∙ ap (λ (w : Kin). w.depth) (sym own) ∙ y.depth) in
      let parent : m.parent ≡ k = ap (λ (w : Kin). w.parent) (sym own) ∙ y.parent in
      let path : parent_path o.0 ≡ p = one_path count es (node_in nodes) l.tree (parent_path o.0) p k (z.4.parent r ∙ ap Some parent) (found_is p ∙ h) in
      (o.0, sym (found_is o.0) ∙ o.1, subst (λ w. is_parent w o.0 ≡ true) path (below_parent o.0 r))

  below_listed : (p : Path) (k : NodeKey) (n : NodeView V) → get g.keys p ≡ Some k → node_in nodes k ≡ Some n → (c : NodeKey) → IsRightBelow g.keys p c → Contains n.children c
  below_listed p k n h at c x =
      let z = node_found count es (node_in nodes) l.tree x.0 c (found_is x.0 ∙ x.1) in
      let m : NodeView V = z.1 in
      let r : is_root x.0 ≡ false = not_root p x.0 x.2 in
      let y = l.kin.listed c (kin_of m) (kin_at c m z.3) (λ none. some_name x.0 r (sym z.4.depth ∙ none)) in
      let parent : m.parent ≡ k = same_some m.parent k (sym (z.4.parent r) ∙ ap (λ q. find path_cmp q es) (sym (parent_is p x.0 x.2)) ∙ found_is p ∙ h) in
      let own : y.0 ≡ kin_of n = same_some y.0 (kin_of n) (sym y.1 ∙ ap (kin_in nodes) parent ∙ kin_at k n at) in
      contains_at n.children m.place c (ap (λ (w : Kin). slice_get w.children m.place) (sym own) ∙ y.2)

  pub children_are : (p : Path) (k : NodeKey) (n : NodeView V) → get g.keys p ≡ Some k → node_in nodes k ≡ Some n → (c : NodeKey) → Contains n.children c ↔ IsRightBelow g.keys p c
  children_are p k n h at c = (listed_below p k n h at c, below_listed p k n h at c)

  pub children_once : (k : NodeKey) (n : NodeView V) → node_in nodes k ≡ Some n → (i j : ℕ) (c : NodeKey) → slice_get n.children i ≡ Some c → slice_get n.children j ≡ Some c → i ≡ j
  children_once k n at i j c a b =
      let x = l.kin.child k c (kin_of n) i (kin_at k n at) a in
      let y = l.kin.child k c (kin_of n) j (kin_at k n at) b in
      sym x.place ∙ ap (λ (z : Kin). z.place) (same_some x.own y.own (sym x.there ∙ y.there)) ∙ y.place

  pub children_fit : (k : NodeKey) (n : NodeView V) → node_in nodes k ≡ Some n → length n.children < 4294967296
  children_fit k n at = l.kin.fits k (kin_of n) (kin_at k n at)

  -- the node at the path one name shorter, if there is one, is there
  pub parent_key_there : (p : Path) (o : Option NodeKey) → (is_root p ≡ true → o ≡ None) → (is_root p ≡ false → o ≡ get g.keys (parent_path p)) → (k : NodeKey) → o ≡ Some k → IsSome (node_in nodes k)
  parent_key_there p o root value k is = by (is_root p) refl
    where
      by : (b : Bool) → is_root p ≡ b → IsSome (node_in nodes k)
      by true r = absurd (some_not_none k o is (root r))
      by false r = key_there k (parent_path p, sym (value r) ∙ is)
