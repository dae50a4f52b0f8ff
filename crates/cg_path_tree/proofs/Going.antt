-- A node goes, and what is kept is that of the tree without it.
use Rattle.std.proofs.Common.{◌≡◌, ◌≢◌, ℕ, ◌<◌, List, length, Option, None, Some, IsSome, option_map, swap_remove, refl, sym, ap, subst, ◌∙◌, inl, inr, arith}
use Rattle.std.specs.List.{slice_get}
use Rattle.std.proofs.lemmas.Option.{slice_get_within}
use Rattle.slab.specs.Slab as slab
use Rattle.cg_maps.specs.FiniteMap.{from_entries, get, set_at}
use Rattle.cg_name.specs.Path.{Path, path_cmp}
use Rattle.cg_path_tree.specs.declared.last_found.LastFound.{LastFound}
use Rattle.cg_path_tree.specs.declared.node.Node.{Node}
use Rattle.cg_path_tree.specs.declared.node.NodeKey.{NodeKey}
use Rattle.cg_path_tree.specs.Chains.{link_of, link_in, no_key, SameLinks, StandsIn, AreLeft, AreChained}
use Rattle.cg_path_tree.specs.LastFound.{IsTrueOf, AreKept}
use Rattle.cg_path_tree.specs.Nodes.{Nodes, IsKey, IsLeaf}
use Rattle.cg_path_tree.specs.Linked.{NodeView, entries_of, node_in, node_view, values_at, Writes, TakesChild, IsLinked, seen}
use Rattle.cg_path_tree.proofs.Chaining.{chained-same}
use Rattle.cg_path_tree.proofs.Linking.{cases_key}
use Rattle.cg_path_tree.proofs.Listing.{all_once, StandOnce}
use Rattle.cg_path_tree.proofs.ListChanges.{same_some, LosesAt, loses-swap_remove, left_cases, still_there}
use Rattle.cg_path_tree.proofs.Ordered.{keys_among, keys-keyed, keys-swap_remove, key_stands, entry_stands, no_key_stands, kept_as, seen_as}
use Rattle.cg_path_tree.proofs.Removing as removing
use Rattle.cg_path_tree.proofs.Views.{seen_at, writes-updates, links-updates}

-- the keys that are left are those but for the one that stood at the place
are_left : (order left : List NodeKey) (i : ℕ) (key : NodeKey) → StandOnce order → slice_get order i ≡ Some key → LosesAt order left i → AreLeft order key left
are_left order left i key once at loses k = (
  (λ stands. elim (left_cases order left i loses stands.0 k stands.1) [
    | inl a ↦ ((length left, a.2), λ same. let place : length left ≡ i = once (length left) i key (a.2 ∙ ap Some same) at in let low = a.1 in absurd (omega arith))
    | inr a ↦ ((stands.0, a.2), λ same. a.0 (once stands.0 i key (a.2 ∙ ap Some same) at))
  ]),
  (λ x. still_there order left i loses x.0.0 k x.0.1 (λ same. x.1 (same_some k key (sym x.0.1 ∙ ap (slice_get order) same ∙ at)))),
)

module _ {V : Type 0} (order : List NodeKey) (nodes : slab.Slab (Node V)) (l : IsLinked (entries_of nodes order) nodes) (g : Nodes V) (is : seen (entries_of nodes order) nodes ≡ g) (key : NodeKey) (there : IsKey g.keys key)
    (unlinked mid : slab.Slab (Node V)) (alike : (i : NodeKey) → node_in unlinked i ≡ node_in nodes i) (number : ℕ) (under : number ≡ key.0) (raw : Node V) (slot : slab.get unlinked number ≡ Some raw) (up : slab.Updates unlinked mid number None) where
  abbrev es : List (Path × NodeKey)
  es = entries_of nodes order

  abbrev fs : List (Path × NodeKey)
  fs = swap_remove es raw.entry (there.0, key)

  ordered : keys_among es ≡ order
  ordered = keys-keyed (node_in nodes) order

  pub its : node_in nodes key ≡ Some (node_view raw)
  its = sym (alike key) ∙ seen_at unlinked key number raw under slot

  update : slab.Updates unlinked mid key.0 None
  update = subst (λ i. slab.Updates unlinked mid i None) under up

  gone : Writes nodes mid key None
  gone =
      let w = writes-updates unlinked mid key None update in
      record { changed = w.changed; others = λ i ne. w.others i ne ∙ alike i }

  its_entry : slice_get es raw.entry ≡ Some (there.0, key)
  its_entry = removing.its_entry es nodes l g is there.0 key (node_view raw) there.1 its

  its_place : slice_get order raw.entry ≡ Some key
  its_place = key_stands es order ordered raw.entry (there.0, key) its_entry

  pub place_there : raw.entry < length order
  place_there = slice_get_within order raw.entry key its_place

  pub moved_there : (e f : NodeKey) → slice_get order raw.entry ≡ Some e → slice_get (swap_remove order raw.entry e) raw.entry ≡ Some f → IsSome (node_in mid f)
  moved_there e f at left =
      let own : e ≡ key = same_some e key (sym at ∙ its_place) in
      let keys : keys_among fs ≡ swap_remove order raw.entry e = keys-swap_remove es raw.entry (there.0, key) ∙ ap (λ ks. swap_remove ks raw.entry key) ordered ∙ ap (swap_remove order raw.entry) (sym own) in
      let x = entry_stands fs (swap_remove order raw.entry e) keys raw.entry f left in
      subst (λ (i : NodeKey). IsSome (node_in mid i)) x.2 (removing.moved_node es nodes l g is there.0 key (node_view raw) there.1 its mid gone x.0 x.1)

  module _ (left : List NodeKey) (loses : (e : NodeKey) → slice_get order raw.entry ≡ Some e → left ≡ swap_remove order raw.entry e) (leaf : (q : Path) → get g.keys q ≡ Some key → IsLeaf g.keys q) (placed : slab.Slab (Node V))
      (moved : (e : NodeKey) (m : NodeView V) → slice_get left raw.entry ≡ Some e → node_in mid e ≡ Some m → Writes mid placed e (Some (record m { entry = raw.entry }))) (unmoved : slice_get left raw.entry ≡ None → placed ≡ mid)
      (parent : Option NodeKey) (root : raw.depth ≡ 0 → parent ≡ None) (value : raw.depth ≢ 0 → parent ≡ Some raw.parent) where
    ordered_left : keys_among fs ≡ left
    ordered_left = keys-swap_remove es raw.entry (there.0, key) ∙ ap (λ ks. swap_remove ks raw.entry key) ordered ∙ sym (loses key its_place)

    moved_entry : (f : Path × NodeKey) (m : NodeView V) → slice_get fs raw.entry ≡ Some f → node_in mid f.1 ≡ Some m → Writes mid placed f.1 (Some (record m { entry = raw.entry }))
    moved_entry f m at node = moved f.1 m (key_stands fs left ordered_left raw.entry f at) node

    unmoved_entry : slice_get fs raw.entry ≡ None → placed ≡ mid
    unmoved_entry none = unmoved (no_key_stands fs left ordered_left raw.entry none)

    pub parent_there : (kp : NodeKey) → parent ≡ Some kp → IsSome (node_in placed kp)
    parent_there = removing.parent_node es nodes l g is there.0 key (node_view raw) there.1 its mid gone fs refl (leaf there.0 there.1) placed moved_entry unmoved_entry parent root value

    pub place_below : (kp : NodeKey) (m : NodeView V) → parent ≡ Some kp → node_in placed kp ≡ Some m → raw.place < length m.children
    place_below kp m e has = removing.place_within es nodes l g is there.0 key (node_view raw) there.1 its mid gone fs refl (leaf there.0 there.1) placed moved_entry unmoved_entry parent root value kp e m has

    pub moved_is_other : (kp d : NodeKey) (m : NodeView V) (c : NodeKey) → parent ≡ Some kp → node_in placed kp ≡ Some m → slice_get m.children raw.place ≡ Some c → slice_get (swap_remove m.children raw.place c) raw.place ≡ Some d → (d ≢ kp) × IsSome (node_in placed d)
    moved_is_other kp d m c e has child some =
        removing.moved_is_other es nodes l g is there.0 key (node_view raw) there.1 its mid gone fs refl (leaf there.0 there.1) placed moved_entry unmoved_entry parent root value kp e m has d c child some

    module _ (later : slab.Slab (Node V)) (none : parent ≡ None → later ≡ placed)
        (some : (kp : NodeKey) (m : NodeView V) (c : NodeKey) → parent ≡ Some kp → node_in placed kp ≡ Some m → slice_get m.children raw.place ≡ Some c → TakesChild placed later kp m (swap_remove m.children raw.place c) raw.place) where
      linked : IsLinked fs later
      linked = removing.linked-removed es nodes l g is there.0 key (node_view raw) there.1 its mid gone fs refl (leaf there.0 there.1) placed moved_entry unmoved_entry parent root value later none some

      keys : from_entries path_cmp fs ≡ set_at g.keys there.0 None
      keys = removing.keys-removed es nodes l g is there.0 key (node_view raw) there.1 its mid gone fs refl (leaf there.0 there.1) placed moved_entry unmoved_entry parent root value later none some

      values : from_entries path_cmp (values_at (node_in later) fs) ≡ set_at g.values there.0 None
      values = removing.values-removed es nodes l g is there.0 key (node_view raw) there.1 its mid gone fs refl (leaf there.0 there.1) placed moved_entry unmoved_entry parent root value later none some

      pub seen_left : seen (entries_of later left) later ≡ record { values = set_at g.values there.0 None; keys = set_at g.keys there.0 None }
      seen_left = seen_as fs later left linked ordered_left ∙ (λ t. record { values = values t; keys = keys t })

      pub kept_left : (heads fewer : List NodeKey) → AreChained order heads (link_in nodes) → ((ks rest : List NodeKey) → AreChained ks heads (link_in nodes) → StandsIn ks key → AreLeft ks key rest → AreChained rest fewer (link_in unlinked))
          → SameLinks mid placed → SameLinks placed later → (last : LastFound) → IsTrueOf (set_at g.keys there.0 None) last → AreKept fewer left later last
      kept_left heads fewer chained unlink first second last true_of =
          let once : StandOnce order = all_once es nodes l g is order ordered in
          let loses_at : LosesAt order left raw.entry = subst (λ ks. LosesAt order ks raw.entry) (sym (loses key its_place)) (loses-swap_remove order raw.entry key its_place) in
          let are : AreLeft order key left = are_left order left raw.entry key once its_place loses_at in
          let a = unlink order left chained (raw.entry, its_place) are in
          let same : (i : NodeKey) → i ≢ key → link_in later i ≡ link_in unlinked i = λ i ne. second i ∙ first i ∙ links-updates unlinked mid key None update i ne in
          let ends : link_in later no_key ≡ None = elim (cases_key no_key key) [
            | inl own ↦ second no_key ∙ first no_key ∙ ap (link_in mid) own ∙ ap (option_map link_of) update.changed
            | inr ne ↦ same no_key ne ∙ a.ends
          ] in
          kept_as fs later left linked ordered_left fewer last
          (chained-same left fewer (link_in unlinked) a (link_in later) (λ i stands. same i ((are i).0 stands).1) ends)
          (subst (λ ks. IsTrueOf ks last) (sym keys) true_of)
