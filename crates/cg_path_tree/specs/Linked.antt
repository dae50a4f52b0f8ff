-- How the keys and the nodes of a tree belong together.
use Rattle.std.specs.Prelude.{◌≡◌, ◌≢◌, ℕ, suc, ◌<◌, false, List, [], ◌∷◌, length, Option, None, Some, option_map, slice_get, count_by, vec_len, vec_capacity}
use Rattle.std.specs.FinMap.Entries.{find}
use Rattle.slab.specs.Slab as slab
use Rattle.cg_maps.specs.FiniteMap.{from_entries}
use Rattle.cg_name.specs.Path.{Path, path_cmp, is_root, is_parent}
use Rattle.cg_path_tree.specs.Chains.{path_hash}
use Rattle.cg_path_tree.specs.declared.node.Node.{Node}
use Rattle.cg_path_tree.specs.declared.node.NodeKey.{NodeKey}
use Rattle.cg_path_tree.specs.Nodes.{Nodes, parent_path}

-- how many paths among them lie right below one
abbrev pub children_in : List (Path × NodeKey) → Path → ℕ
children_in es p = count_by (λ e. is_parent p e.0) es

-- what a node says of those above and below it
pub record Kin : Type 0 where
  pub parent : NodeKey
  pub depth : ℕ
  pub place : ℕ
  pub children : List NodeKey

-- a node at place j among the children of the node k, which has d names
pub record IsChildAt (kin : NodeKey → Option Kin) (k : NodeKey) (d j : ℕ) (c : NodeKey) : Type 0 where
  pub own : Kin
  pub there : kin c ≡ Some own
  pub depth : own.depth ≡ suc d
  pub parent : own.parent ≡ k
  pub place : own.place ≡ j

-- each node has an entry, those in its list lie below it and know their places, and a node that lies below another stands
-- in its list
pub record AreKin (es : List (Path × NodeKey)) (kin : NodeKey → Option Kin) : Type 0 where
  pub owned : (k : NodeKey) (n : Kin) → kin k ≡ Some n → (p : Path) × (find path_cmp p es ≡ Some k)
  pub child : (k c : NodeKey) (n : Kin) (j : ℕ) → kin k ≡ Some n → slice_get n.children j ≡ Some c → IsChildAt kin k n.depth j c
  pub listed : (c : NodeKey) (m : Kin) → kin c ≡ Some m → m.depth ≢ 0 → (n : Kin) × (kin m.parent ≡ Some n) × (slice_get n.children m.place ≡ Some c)
  pub fits : (k : NodeKey) (n : Kin) → kin k ≡ Some n → length n.children < 4294967296

-- what a node says; how much room its list has is left out, and which is the next in its chain
pub record NodeView (V : Type 0) : Type 0 where
  pub own : Path × ℕ
  pub entry : ℕ
  pub parent : NodeKey
  pub depth : ℕ
  pub place : ℕ
  pub children : List NodeKey
  pub value : V

module _ {V : Type 0} where
  abbrev pub node_view : Node V → NodeView V
  node_view n = record { own = (n.path, n.hash); entry = n.entry; parent = n.parent; depth = n.depth; place = n.place; children = n.children.items; value = n.value }

  -- the node with a key
  abbrev pub node_in : slab.Slab (Node V) → NodeKey → Option (NodeView V)
  node_in nodes key = option_map node_view (slab.get nodes key.0)

  abbrev pub kin_of : NodeView V → Kin
  kin_of n = record { parent = n.parent; depth = n.depth; place = n.place; children = n.children }

  abbrev pub kin_in : slab.Slab (Node V) → NodeKey → Option Kin
  kin_in nodes key = option_map kin_of (node_in nodes key)

  -- the list of the node has room for one more
  abbrev pub HasRoom : slab.Slab (Node V) → NodeKey → Type 0
  HasRoom nodes key = (n : Node V) → slab.get nodes key.0 ≡ Some n → vec_len n.children < vec_capacity n.children

  -- one node is written, and no other
  pub record Writes (old new : slab.Slab (Node V)) (key : NodeKey) (n : Option (NodeView V)) : Type 0 where
    pub changed : node_in new key ≡ n
    pub others : (other : NodeKey) → other ≢ key → node_in new other ≡ node_in old other

  -- the node has these children, and the one at this place, if there is one, knows it
  pub record TakesChild (old new : slab.Slab (Node V)) (k : NodeKey) (n : NodeView V) (ys : List NodeKey) (place : ℕ) : Type 0 where
    pub listed : node_in new k ≡ Some (record n { children = ys })
    pub moved : (d : NodeKey) (m : NodeView V) → slice_get ys place ≡ Some d → node_in old d ≡ Some m → node_in new d ≡ Some (record m { place = place })
    pub others : (other : NodeKey) → other ≢ k → slice_get ys place ≢ Some other → node_in new other ≡ node_in old other

  abbrev pub value_of : Option (NodeView V) → Option V
  value_of None = None
  value_of (Some n) = Some n.value

  abbrev pub valued : Path → Option (NodeView V) → List (Path × V) → List (Path × V)
  valued p None rest = rest
  valued p (Some n) rest = (p, n.value) ∷ rest

  -- the values of the nodes, by their paths
  abbrev pub values_at : (NodeKey → Option (NodeView V)) → List (Path × NodeKey) → List (Path × V)
  values_at node [] = []
  values_at node (e ∷ es) = valued e.0 (node e.1) (values_at node es)

  -- the node of the entry with this number and this path, where paths have so many children
  pub record IsNodeAt (count : Path → ℕ) (es : List (Path × NodeKey)) (j : ℕ) (p : Path) (n : NodeView V) : Type 0 where
    pub own : n.own ≡ (p, path_hash p)
    pub entry : n.entry ≡ j
    pub depth : n.depth ≡ length p
    pub children : length n.children ≡ count p
    pub parent : is_root p ≡ false → find path_cmp (parent_path p) es ≡ Some n.parent

  -- each entry has a node, which knows its number, its parent and as many children as there are, and no path stands twice
  pub record IsTree (count : Path → ℕ) (es : List (Path × NodeKey)) (node : NodeKey → Option (NodeView V)) : Type 0 where
    pub once : (i j : ℕ) (e f : Path × NodeKey) → slice_get es i ≡ Some e → slice_get es j ≡ Some f → e.0 ≡ f.0 → i ≡ j
    pub node_of : (j : ℕ) (e : Path × NodeKey) → slice_get es j ≡ Some e → (n : NodeView V) × (node e.1 ≡ Some n) × IsNodeAt count es j e.0 n

  -- the nodes are those of these entries, so many that each has a number of 32 bits
  pub record IsLinked (es : List (Path × NodeKey)) (nodes : slab.Slab (Node V)) : Type 0 where
    pub tree : IsTree (children_in es) es (node_in nodes)
    pub kin : AreKin es (kin_in nodes)
    pub few : length es < 4294967296

  abbrev pub path_there : Option (NodeView V) → Path
  path_there None = []
  path_there (Some n) = n.own.0

  -- each key with the path of its node
  abbrev pub keyed : (NodeKey → Option (NodeView V)) → List NodeKey → List (Path × NodeKey)
  keyed node [] = []
  keyed node (k ∷ ks) = (path_there (node k), k) ∷ keyed node ks

  -- the keys of all nodes, each with its node's path
  abbrev pub entries_of : slab.Slab (Node V) → List NodeKey → List (Path × NodeKey)
  entries_of nodes order = keyed (node_in nodes) order

  -- what is seen of the entries and the nodes
  abbrev pub seen : List (Path × NodeKey) → slab.Slab (Node V) → Nodes V
  seen es nodes = record { values = from_entries path_cmp (values_at (node_in nodes) es); keys = from_entries path_cmp es }
