-- Chains of nodes, by which a node is found by the hash of its path's text.
use Rattle.std.specs.Prelude.{◌≡◌, ℕ, suc, ◌-◌, ◌<◌, ◌↔◌, ◌≢◌, List, [], ◌∷◌, length, Option, Some, None, option_map, slice_get, bit_and}
use Rattle.std.specs.Hash.FoldHasher as folding
use Rattle.slab.specs.Slab as slab
use Rattle.cg_name.specs.Packed.{packed_text}
use Rattle.cg_name.specs.Path.{Path}
use Rattle.cg_path_tree.specs.declared.node.Node.{Node}
use Rattle.cg_path_tree.specs.declared.node.NodeKey.{NodeKey}

-- the hash of a text
abbrev pub text_hash : List ℕ → ℕ
text_hash text = bit_and (folding.finish (folding.write folding.initial text)) 4294967295

-- the hash of a path's text
abbrev pub path_hash : Path → ℕ
path_hash p = text_hash (packed_text p)

-- the number of the chain for a hash, of so many
abbrev pub slot_in : ℕ → ℕ → ℕ
slot_in chains hash = bit_and hash (chains - 1)

-- the key of no node
abbrev pub no_key : NodeKey
no_key = record { 0 = 4294967295 }

-- what a node says of its chain
pub record Link : Type 0 where
  pub hash : ℕ
  pub next : NodeKey

module _ {V : Type 0} where
  abbrev pub link_of : Node V → Link
  link_of n = record { hash = n.hash; next = n.next }

  abbrev pub link_in : slab.Slab (Node V) → NodeKey → Option Link
  link_in nodes key = option_map link_of (slab.get nodes key.0)

  -- no node says another thing of its chain
  abbrev pub SameLinks : slab.Slab (Node V) → slab.Slab (Node V) → Type 0
  SameLinks old new = (k : NodeKey) → link_in new k ≡ link_in old k

-- the key is one of these
abbrev pub StandsIn : List NodeKey → NodeKey → Type 0
StandsIn ks k = (j : ℕ) × (slice_get ks j ≡ Some k)

-- these keys but for one
abbrev pub AreLeft : List NodeKey → NodeKey → List NodeKey → Type 0
AreLeft ks gone left = (k : NodeKey) → StandsIn left k ↔ (StandsIn ks k × (k ≢ gone))

-- from this key on, the nodes of a chain
abbrev pub IsChain : (NodeKey → Option Link) → NodeKey → List NodeKey → Type 0
IsChain link head [] = head ≡ no_key
IsChain link head (k ∷ ks) = (head ≡ k) × ((l : Link) × (link k ≡ Some l) × IsChain link l.next ks)

-- the key stands in the chain that begins so
abbrev pub IsInChain : (NodeKey → Option Link) → NodeKey → NodeKey → Type 0
IsInChain link head k = (c : List NodeKey) × IsChain link head c × StandsIn c k

-- the node is one of those with these keys, and its hash is for the chain with this number, of so many
pub record IsOfSlot (ks : List NodeKey) (link : NodeKey → Option Link) (chains slot : ℕ) (k : NodeKey) : Type 0 where
  pub among : StandsIn ks k
  pub own : Link
  pub there : link k ≡ Some own
  pub slot_is : slot_in chains own.hash ≡ slot

-- a chain of such nodes
pub record IsChainOf (ks : List NodeKey) (link : NodeKey → Option Link) (chains slot : ℕ) (head : NodeKey) : Type 0 where
  pub chain : List NodeKey
  pub is : IsChain link head chain
  pub each : (k : NodeKey) → StandsIn chain k → IsOfSlot ks link chains slot k

-- a node that stands in the chain for its hash
pub record IsListed (heads : List NodeKey) (link : NodeKey → Option Link) (k : NodeKey) : Type 0 where
  pub own : Link
  pub there : link k ≡ Some own
  pub below : k.0 < 4294967295
  pub head : NodeKey
  pub begins : slice_get heads (slot_in (length heads) own.hash) ≡ Some head
  pub listed : IsInChain link head k

-- the nodes with these keys, and no others, stand in the chains, each in the one for its hash
pub record AreChained (ks heads : List NodeKey) (link : NodeKey → Option Link) : Type 0 where
  pub chains : (slot : ℕ) (head : NodeKey) → slice_get heads slot ≡ Some head → IsChainOf ks link (length heads) slot head
  pub each : (k : NodeKey) → StandsIn ks k → IsListed heads link k
  pub ends : link no_key ≡ None

-- the key stands in the chain, but not first, and that is of no more nodes than there are keys
pub record IsBehind (link : NodeKey → Option Link) (head key : NodeKey) : Type 0 where
  pub chain : List NodeKey
  pub is : IsChain link head chain
  pub place : ℕ
  pub at : slice_get chain (suc place) ≡ Some key
  pub short : length chain < 4294967296

-- the node stands in the chain, right before that of the key
pub record IsBefore (link : NodeKey → Option Link) (head key before : NodeKey) : Type 0 where
  pub listed : IsInChain link head before
  pub own : Link
  pub there : link before ≡ Some own
  pub next : own.next ≡ key
