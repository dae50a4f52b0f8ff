-- The keys of all nodes, in the order in which a tree lists them, and the entries that they are.
use Rattle.std.proofs.Common.{◌≡◌, ℕ, suc, ◌-◌, List, [], ◌∷◌, ◌++◌, map, length, get_or, set, take, Option, None, Some, refl, sym, ap, subst, ◌∙◌}
use Rattle.std.specs.List.{slice_get, swap_remove}
use Rattle.std.proofs.lemmas.List.{length-map, map-set, take-map, map-append}
use Rattle.std.proofs.Math.ListN.{get_or-map}
use Rattle.slab.specs.Slab as slab
use Rattle.cg_maps.specs.FiniteMap.{from_entries}
use Rattle.cg_name.specs.Path.{Path, path_cmp}
use Rattle.cg_path_tree.specs.declared.last_found.LastFound.{LastFound}
use Rattle.cg_path_tree.specs.declared.node.Node.{Node}
use Rattle.cg_path_tree.specs.declared.node.NodeKey.{NodeKey}
use Rattle.cg_path_tree.specs.Chains.{link_in, AreChained}
use Rattle.cg_path_tree.specs.LastFound.{IsTrueOf, AreKept}
use Rattle.cg_path_tree.specs.Linked.{NodeView, node_in, children_in, entries_of, path_there, keyed, seen, IsLinked, IsTree}
use Rattle.cg_path_tree.proofs.ListChanges.{some_not_none, at_mapped, mapped_at}

-- the keys without their paths
abbrev pub keys_among : List (Path × NodeKey) → List NodeKey
keys_among es = map (λ e. e.1) es

pub keys-swap_remove : (es : List (Path × NodeKey)) (i : ℕ) (e : Path × NodeKey) → keys_among (swap_remove es i e) ≡ swap_remove (keys_among es) i e.1
keys-swap_remove es i e =
    let key = λ (f : Path × NodeKey). f.1 in
    let len : length (keys_among es) ≡ length es = length-map es key in
    sym (
    ap (λ n. take (n - 1) (set (keys_among es) i (get_or (keys_among es) (n - 1) e.1))) len
    ∙ ap (λ k. take (length es - 1) (set (keys_among es) i k)) (get_or-map key es (length es - 1) e)
    ∙ ap (take (length es - 1)) (sym (map-set key es i (get_or es (length es - 1) e)))
    ∙ take-map key (length es - 1) (set es i (get_or es (length es - 1) e))
    )

pub keys-push : (es : List (Path × NodeKey)) (e : Path × NodeKey) → keys_among (es ++ e ∷ []) ≡ keys_among es ++ e.1 ∷ []
keys-push es e = map-append (λ (f : Path × NodeKey). f.1) es (e ∷ [])

-- an entry's key stands where that does
pub key_stands : (es : List (Path × NodeKey)) (ks : List NodeKey) → keys_among es ≡ ks → (j : ℕ) (e : Path × NodeKey) → slice_get es j ≡ Some e → slice_get ks j ≡ Some e.1
key_stands es ks is j e h = ap (λ xs. slice_get xs j) (sym is) ∙ at_mapped (λ (f : Path × NodeKey). f.1) es j e h

pub entry_stands : (es : List (Path × NodeKey)) (ks : List NodeKey) → keys_among es ≡ ks → (j : ℕ) (k : NodeKey) → slice_get ks j ≡ Some k → (e : Path × NodeKey) × (slice_get es j ≡ Some e) × (e.1 ≡ k)
entry_stands es ks is j k h = mapped_at (λ (f : Path × NodeKey). f.1) es j k (ap (λ xs. slice_get xs j) is ∙ h)

pub no_key_stands : (es : List (Path × NodeKey)) (ks : List NodeKey) → keys_among es ≡ ks → (j : ℕ) → slice_get es j ≡ None → slice_get ks j ≡ None
no_key_stands es ks is j none = by (slice_get ks j) refl
  where
    by : (o : Option NodeKey) → slice_get ks j ≡ o → slice_get ks j ≡ None
    by None e = e
    by (Some k) e = let x = entry_stands es ks is j k e in absurd (some_not_none x.0 (slice_get es j) x.1 none)

module _ {V : Type 0} (node : NodeKey → Option (NodeView V)) where
  pub keys-keyed : (ks : List NodeKey) → keys_among (keyed node ks) ≡ ks
  keys-keyed [] = refl
  keys-keyed (k ∷ ks) = ap (λ xs. k ∷ xs) (keys-keyed ks)

  keyed_each : (es : List (Path × NodeKey)) → ((j : ℕ) (e : Path × NodeKey) → slice_get es j ≡ Some e → path_there (node e.1) ≡ e.0) → keyed node (keys_among es) ≡ es
  keyed_each [] h = refl
  keyed_each (e ∷ es) h = λ i. (h 0 e refl i, e.1) ∷ keyed_each es (λ j. h (suc j)) i

  -- the entries of a tree are those of their keys
  pub keyed_is : (count : Path → ℕ) (es : List (Path × NodeKey)) (ks : List NodeKey) → IsTree count es node → keys_among es ≡ ks → keyed node ks ≡ es
  keyed_is count es ks t is =
      ap (keyed node) (sym is) ∙ keyed_each es (λ j e h.
      let x = t.node_of j e h in
      ap path_there x.1 ∙ ap (λ (o : Path × ℕ). o.0) x.2.own)

  pub length-keyed : (ks : List NodeKey) → length (keyed node ks) ≡ length ks
  length-keyed ks = sym (length-map (keyed node ks) (λ (e : Path × NodeKey). e.1)) ∙ ap length (keys-keyed ks)

-- ---- a tree whose keys stand in this order

module _ {V : Type 0} (es : List (Path × NodeKey)) (nodes : slab.Slab (Node V)) (order : List NodeKey) (l : IsLinked es nodes) (ordered : keys_among es ≡ order) where
  pub entries_are : entries_of nodes order ≡ es
  entries_are = keyed_is (node_in nodes) (children_in es) es order l.tree ordered

  pub seen_as : seen (entries_of nodes order) nodes ≡ seen es nodes
  seen_as = ap (λ xs. seen xs nodes) entries_are

  pub kept_as : (heads : List NodeKey) (last : LastFound) → AreChained order heads (link_in nodes) → IsTrueOf (from_entries path_cmp es) last → AreKept heads order nodes last
  kept_as heads last chained true_of = record {
    linked = subst (λ xs. IsLinked xs nodes) (sym entries_are) l;
    chained = chained;
    last = subst (λ xs. IsTrueOf (from_entries path_cmp xs) last) (sym entries_are) true_of;
  }
