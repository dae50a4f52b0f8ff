-- A node comes, and what is kept is that of the tree with it.
use Rattle.std.proofs.Common.{◌≡◌, ◌≢◌, ℕ, ◌<◌, false, true, List, [], ◌∷◌, ◌++◌, length, Option, None, Some, IsSome, unwrap_or, refl, sym, ap, subst, ◌∙◌, arith}
use Rattle.slab.specs.Slab as slab
use Rattle.cg_maps.specs.FiniteMap.{from_entries, get, set_at}
use Rattle.cg_name.specs.Path.{Path, path_cmp, is_root}
use Rattle.cg_path_tree.specs.declared.last_found.LastFound.{LastFound}
use Rattle.cg_path_tree.specs.declared.node.Node.{Node}
use Rattle.cg_path_tree.specs.declared.node.NodeKey.{NodeKey}
use Rattle.cg_path_tree.specs.Chains.{path_hash, link_in, no_key, SameLinks, StandsIn, AreChained}
use Rattle.cg_path_tree.specs.LastFound.{IsTrueOf, AreKept}
use Rattle.cg_path_tree.specs.Nodes.{Nodes, parent_path, HasParent, IsKey}
use Rattle.cg_path_tree.specs.Linked.{NodeView, entries_of, node_in, node_view, values_at, HasRoom, Writes, IsLinked, seen}
use Rattle.cg_path_tree.proofs.Adding as adding
use Rattle.cg_path_tree.proofs.Chaining.{chained-same}
use Rattle.cg_path_tree.proofs.Listing.{all_live}
use Rattle.cg_path_tree.proofs.ListChanges.{some_not_none}
use Rattle.cg_path_tree.proofs.Ordered.{keys_among, keys-keyed, keys-push, length-keyed, kept_as, seen_as}
use Rattle.cg_path_tree.proofs.Seen.{key_there}
use Rattle.cg_path_tree.proofs.Views.{other_number, writes-updates, links-updates, some_there}

-- nodes of which the same is seen are the same tree
module _ {V : Type 0} (order now : List NodeKey) (nodes later : slab.Slab (Node V)) (l : IsLinked (entries_of nodes order) nodes) (same : now ≡ order) (alike : (i : NodeKey) → node_in later i ≡ node_in nodes i) where
  still_linked : IsLinked (entries_of nodes order) later
  still_linked = adding.linked-same (entries_of nodes order) (entries_of nodes order) nodes later l refl alike

  still_ordered : keys_among (entries_of nodes order) ≡ now
  still_ordered = keys-keyed (node_in nodes) order ∙ sym same

  pub seen_still : seen (entries_of later now) later ≡ seen (entries_of nodes order) nodes
  seen_still = seen_as (entries_of nodes order) later now still_linked still_ordered ∙ adding.seen-same (entries_of nodes order) (entries_of nodes order) nodes later l refl alike

  pub kept_still : (heads : List NodeKey) (last : LastFound) → AreChained now heads (link_in later) → IsTrueOf (from_entries path_cmp (entries_of nodes order)) last → AreKept heads now later last
  kept_still heads last chained true_of = kept_as (entries_of nodes order) later now still_linked still_ordered heads last chained true_of

module _ {V : Type 0} (order : List NodeKey) (nodes : slab.Slab (Node V)) (l : IsLinked (entries_of nodes order) nodes) (g : Nodes V) (is : seen (entries_of nodes order) nodes ≡ g) (p : Path) (absent : get g.keys p ≡ None) (below : HasParent g.keys p)
    (chained made grown put linked : slab.Slab (Node V)) (chaining : (i : NodeKey) → node_in chained i ≡ node_in nodes i) (making : (i : NodeKey) → node_in made i ≡ node_in chained i) (room : grown ≡ record made { capacity = grown.capacity })
    (k : NodeKey) (k_is : k.0 ≡ made.vacant_key) (k_low : k.0 < 4294967295) (unused : node_in made k ≡ None) (number : ℕ) (under : number ≡ grown.vacant_key) (m : Node V) (up : slab.Updates grown put number (Some m))
    (linking : (i : NodeKey) → node_in linked i ≡ node_in put i) (rest : (i : NodeKey) → i ≢ k → slab.get linked i.0 ≡ slab.get put i.0)
    (path : m.path ≡ p) (hash : m.hash ≡ path_hash p) (entry : m.entry ≡ length order) (low_entry : m.entry < 4294967295) (depth : m.depth ≡ length p) (childless : m.children.items ≡ []) (parent : Option NodeKey) (root : is_root p ≡ true → parent ≡ None)
    (value : is_root p ≡ false → parent ≡ get g.keys (parent_path p)) (own : m.parent ≡ unwrap_or parent k) (place : (kp : NodeKey) (n : NodeView V) → parent ≡ Some kp → node_in chained kp ≡ Some n → m.place ≡ length n.children) (low : m.place < 4294967295) where
  abbrev es : List (Path × NodeKey)
  es = entries_of nodes order

  abbrev fs : List (Path × NodeKey)
  fs = es ++ (p, k) ∷ []

  kept : (i : NodeKey) → node_in grown i ≡ node_in nodes i
  kept i = ap (λ s. node_in s i) room ∙ making i ∙ chaining i

  vacant : node_in nodes k ≡ None
  vacant = sym (making k ∙ chaining k) ∙ unused

  its_number : number ≡ k.0
  its_number = under ∙ ap (λ (s : slab.Slab (Node V)). s.vacant_key) room ∙ sym k_is

  update : slab.Updates grown put k.0 (Some m)
  update = subst (λ i. slab.Updates grown put i (Some m)) its_number up

  puts : Writes grown put k (Some (node_view m))
  puts = writes-updates grown put k (Some m) update

  comes : Writes grown linked k (Some (node_view m))
  comes = record { changed = linking k ∙ puts.changed; others = λ i ne. linking i ∙ puts.others i ne }

  owned : ◌≡◌ {A = Path × ℕ} (m.path, m.hash) (p, path_hash p)
  owned = λ t. (path t, hash t)

  entry_is : m.entry ≡ length es
  entry_is = entry ∙ sym (length-keyed (node_in nodes) order)

  places : (kp : NodeKey) (n : NodeView V) → parent ≡ Some kp → node_in nodes kp ≡ Some n → m.place ≡ length n.children
  places kp n e at = place kp n e (chaining kp ∙ at)

  pub parent_there : (kp : NodeKey) → parent ≡ Some kp → IsSome (node_in linked kp)
  parent_there = adding.parent_node es fs nodes l g is p k (node_view m) absent below refl grown linked kept vacant comes owned entry_is depth childless parent root value own places low

  pub parent_room : (kp : NodeKey) → parent ≡ Some kp → HasRoom made kp → HasRoom linked kp
  parent_room kp e has n at =
      let new = adding.is_new es fs nodes l g is p k (node_view m) absent below refl grown linked kept vacant comes owned entry_is depth childless parent root value own places low kp e in
      has n (sym (rest kp new ∙ update.others kp.0 (other_number kp k new) ∙ ap (λ s. slab.get s kp.0) room) ∙ at)

  pub is_fresh : ¬ (IsKey g.keys k)
  is_fresh = adding.fresh es fs nodes l g is p k (node_view m) absent below refl grown linked kept vacant comes owned entry_is depth childless parent root value own places low

  module _ (later : slab.Slab (Node V)) (none : parent ≡ None → later ≡ linked) (some : (kp : NodeKey) (n : NodeView V) → parent ≡ Some kp → node_in linked kp ≡ Some n → Writes linked later kp (Some (record n { children = n.children ++ k ∷ [] })))
      (now : List NodeKey) (longer : now ≡ order ++ k ∷ []) where
    is_linked : IsLinked fs later
    is_linked = adding.linked-added es fs nodes l g is p k (node_view m) absent below refl grown linked kept vacant comes owned entry_is depth childless parent root value own places low later none some (subst (λ n. n < 4294967295) entry_is low_entry)

    keys : from_entries path_cmp fs ≡ set_at g.keys p (Some k)
    keys = adding.keys-added es fs nodes l g is p k (node_view m) absent below refl grown linked kept vacant comes owned entry_is depth childless parent root value own places low later none some

    values : from_entries path_cmp (values_at (node_in later) fs) ≡ set_at g.values p (Some m.value)
    values = adding.values-added es fs nodes l g is p k (node_view m) absent below refl grown linked kept vacant comes owned entry_is depth childless parent root value own places low later none some

    ordered : keys_among fs ≡ now
    ordered = keys-push es (p, k) ∙ ap (λ ks. ks ++ k ∷ []) (keys-keyed (node_in nodes) order) ∙ sym longer

    pub seen_more : seen (entries_of later now) later ≡ record { values = set_at g.values p (Some m.value); keys = set_at g.keys p (Some k) }
    seen_more = seen_as fs later now is_linked ordered ∙ (λ t. record { values = values t; keys = keys t })

    absent_key : ¬ (StandsIn order k)
    absent_key stands =
        let n = some_there (node_in nodes k) (key_there es nodes l g is k (all_live es nodes l g is order (keys-keyed (node_in nodes) order) stands.0 k stands.1)) in
        some_not_none n.0 (node_in nodes k) n.1 vacant

    pub kept_more : (heads more : List NodeKey) → AreChained order heads (link_in chained) → SameLinks chained made → ((ks : List NodeKey) → AreChained ks heads (link_in put) → ¬ (StandsIn ks k) → AreChained (ks ++ k ∷ []) more (link_in linked)) → SameLinks linked later
        → (last : LastFound) → IsTrueOf (set_at g.keys p (Some k)) last → AreKept more now later last
    kept_more heads more a same link lists last true_of =
        let before : (i : NodeKey) → i ≢ k → link_in put i ≡ link_in chained i = λ i ne. links-updates grown put k (Some m) update i ne ∙ ap (λ s. link_in s i) room ∙ same i in
        let b = chained-same order heads (link_in chained) a (link_in put) (λ i stands. before i (λ own. absent_key (subst (StandsIn order) own stands)))
        (before no_key (λ own. absurd (omega (arith, k_low, ap (λ (x : NodeKey). x.0) own))) ∙ a.ends) in
        let c = link order b absent_key in
        let d = chained-same (order ++ k ∷ []) more (link_in linked) c (link_in later) (λ i _. lists i) (lists no_key ∙ c.ends) in
        kept_as fs later now is_linked ordered more last (subst (λ ks. AreChained ks more (link_in later)) (sym longer) d) (subst (λ ks. IsTrueOf ks last) (sym keys) true_of)
