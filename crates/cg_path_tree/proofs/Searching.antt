-- A search along the chain for a text's hash finds the node of its path, if there is one.
use Rattle.std.proofs.Common.{◌≡◌, ◌≢◌, ◌<◌, ℕ, Bool, true, false, List, length, None, Some, is_some, option_map, sym, ap, ◌∙◌, arith, true≢false}
use Rattle.std.specs.List.{slice_get}
use Rattle.std.specs.Str.{bytes_eq}
use Rattle.std.proofs.lemmas.Slice.Eq.{bytes_eq-Decides}
use Rattle.std.proofs.lemmas.Option.{slice_get_within}
use Rattle.slab.specs.Slab as slab
use Rattle.cg_maps.specs.FiniteMap.{get}
use Rattle.cg_name.specs.Packed.{names_in, packed_text, IsPacked}
use Rattle.cg_name.specs.Path.{Path, IsPath}
use Rattle.cg_name.proofs.Packing.{packed_text-names_in}
use Rattle.cg_path_tree.specs.declared.node.Node.{Node}
use Rattle.cg_path_tree.specs.declared.node.NodeKey.{NodeKey}
use Rattle.cg_path_tree.specs.Chains.{Link, link_of, link_in, slot_in, text_hash, path_hash, StandsIn, AreChained}
use Rattle.cg_path_tree.specs.Nodes.{Nodes}
use Rattle.cg_path_tree.specs.Linked.{entries_of, node_in, node_view, path_there, IsLinked, seen}
use Rattle.cg_path_tree.proofs.Chaining.{IsSearch, search_begins}
use Rattle.cg_path_tree.proofs.Finding.{absent_by, standing_of}
use Rattle.cg_path_tree.proofs.Ordered.{keys-keyed, key_stands}
use Rattle.cg_path_tree.proofs.Seen.{found_is, node_of_key, path_at, key_from_node, own_found, hash_there}
use Rattle.cg_path_tree.proofs.Texts.{tells}
use Rattle.cg_path_tree.proofs.Views.{unmap}

-- the node has the path of this text
abbrev pub Sought : {V : Type 0} → slab.Slab (Node V) → List ℕ → NodeKey → Type 0
Sought nodes text k = path_there (node_in nodes k) ≡ names_in text

module _ {V : Type 0} (order : List NodeKey) (nodes : slab.Slab (Node V)) (l : IsLinked (entries_of nodes order) nodes) (g : Nodes V) (is : seen (entries_of nodes order) nodes ≡ g) (text : List ℕ) (packed : IsPacked text) where
  abbrev es : List (Path × NodeKey)
  es = entries_of nodes order

  -- where no node that is sought has a key among those of all, the path has none
  pub none_found : ((k : NodeKey) → StandsIn order k → ¬ (Sought nodes text k)) → get g.keys (names_in text) ≡ None
  none_found none = absent_by (get g.keys (names_in text)) (λ k there.
      let at = standing_of es (names_in text) k (found_is es nodes l g is (names_in text) ∙ there) in
      let n = node_of_key es nodes l g is (names_in text) k there in
      none k (at.0, key_stands es order (keys-keyed (node_in nodes) order) at.0 (names_in text, k) at.1) (ap path_there n.1 ∙ path_at es nodes l g is (names_in text) k n.0 there n.1))

  -- a node that is sought has the text's hash
  pub sought_hash : (k : NodeKey) → Sought nodes text k → (m : Link) → link_in nodes k ≡ Some m → m.hash ≡ text_hash text
  sought_hash k so m there =
      let raw = unmap link_of (slab.get nodes k.0) m there in
      let n = raw.0 in
      let node : node_in nodes k ≡ Some (node_view n) = ap (option_map node_view) raw.1 in
      let key = key_from_node es nodes l g is k (ap is_some raw.1) in
      ap (λ (x : Link). x.hash) (sym raw.2)
      ∙ hash_there es nodes l g is k (node_view n) key node
      ∙ ap path_hash (ap path_there (sym node) ∙ so)
      ∙ ap text_hash (packed_text-names_in text packed.start)

  pub search_starts : (heads : List NodeKey) (a : AreChained order heads (link_in nodes)) (head : NodeKey) → slice_get heads (slot_in (length heads) (text_hash text)) ≡ Some head → IsSearch order (link_in nodes) head 0 (Sought nodes text)
  search_starts heads a head begins =
      search_begins order heads (link_in nodes) a (slot_in (length heads) (text_hash text)) head begins (Sought nodes text) (λ k _ so m there. ap (slot_in (length heads)) (sought_hash k so m there))

  -- no node, where there are no chains
  pub no_heads : (heads : List NodeKey) (a : AreChained order heads (link_in nodes)) → length heads ≡ 0 → (k : NodeKey) → StandsIn order k → ¬ (Sought nodes text k)
  no_heads heads a none k stands so =
      let e = a.each k stands in
      let low : slot_in (length heads) e.own.hash < length heads = slice_get_within heads (slot_in (length heads) e.own.hash) e.head e.begins in
      omega arith

  module _ (k : NodeKey) (number : ℕ) (n : Node V) (under : number ≡ k.0) (slot : slab.get nodes number ≡ Some n) where
    own_slot : slab.get nodes k.0 ≡ Some n
    own_slot = ap (slab.get nodes) (sym under) ∙ slot

    pub found_so : (bytes : List ℕ) (b : Bool) → bytes ≡ packed_text n.path → IsPath n.path → b ≡ bytes_eq bytes text → b ≡ true → get g.keys (names_in text) ≡ Some k
    found_so bytes b own path test same =
        let equal : bytes ≡ text = (bytes_eq-Decides bytes text).0 (sym test ∙ same) in
        let key = key_from_node es nodes l g is k (ap is_some own_slot) in
        ap (get g.keys) (tells text n.path path (sym equal ∙ own)) ∙ own_found es nodes l g is k (node_view n) key (ap (option_map node_view) own_slot)

    named : Sought nodes text k → n.path ≡ names_in text
    named so = ap path_there (sym (ap (option_map node_view) own_slot)) ∙ so

    pub other_text : (bytes : List ℕ) (b : Bool) → bytes ≡ packed_text n.path → b ≡ bytes_eq bytes text → b ≡ false → ¬ (Sought nodes text k)
    other_text bytes b own test differs so =
        let equal : bytes ≡ text = own ∙ ap packed_text (named so) ∙ packed_text-names_in text packed.start in
        true≢false (sym (test ∙ (bytes_eq-Decides bytes text).1 equal) ∙ differs)

    pub other_hash : n.hash ≢ text_hash text → ¬ (Sought nodes text k)
    other_hash differs so = differs (sought_hash k so (link_of n) (ap (option_map link_of) own_slot))
