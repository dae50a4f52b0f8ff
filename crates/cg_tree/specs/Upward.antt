-- A walk from a node up to the root.
use Rattle.std.specs.Prelude.{◌≡◌, ◌<◌, ℕ, cond, nat_le, List, length, take, Option, Some, None}
use Rattle.cg_maps.specs.FiniteMap.{FiniteMap, get}
use Rattle.cg_name.specs.Path.{Path, path_cmp}
use Rattle.cg_path_tree.specs.declared.node.NodeKey.{NodeKey}
use Rattle.cg_path_tree.specs.Nodes.{Nodes, IsKey}
use Rattle.cg_tree.specs.declared.entry.Entry.{Entry}
use Rattle.cg_tree.specs.Ancestors.{downward, AncestorValue}
use Rattle.cg_tree.specs.Entries.{path_at}

-- what an entry of n names says; no entry, no group
abbrev pub told : ℕ → Option Entry → AncestorValue
told n None = record { depth = n; settings = None; descendants = 0 }
told n (Some e) = record { depth = n; settings = e.settings; descendants = e.below }

-- what is told of the first n names of q, of nothing where there are fewer
abbrev pub told_on : FiniteMap path_cmp Entry → Path → ℕ → AncestorValue
told_on values q n = told n (cond (nat_le n (length q)) (get values (take n q)) None)

-- what is told of n names, on the way up from a node: of nothing where there is none so deep
abbrev pub told_from : Nodes Entry → Option NodeKey → ℕ → AncestorValue
told_from nodes None n = told n None
told_from nodes (Some k) n = told_on nodes.values (path_at nodes k) n

-- on the whole way up, from fewer than n names on
abbrev pub going_up : Nodes Entry → Option NodeKey → ℕ → List AncestorValue
going_up nodes at n = downward (told_from nodes at) n

-- the node, if there is one, has fewer than n names
abbrev pub IsBelow : Nodes Entry → Option NodeKey → ℕ → Type 0
IsBelow nodes at n = (k : NodeKey) → at ≡ Some k → IsKey nodes.keys k × (length (path_at nodes k) < n)

-- the node of some first names of p, fewer than n, and none of more is there
pub record IsDeepestAt (nodes : Nodes Entry) (p : Path) (n : ℕ) (k : NodeKey) : Type 0 where
  pub depth : ℕ
  pub below : depth < n
  pub found : get nodes.keys (take depth p) ≡ Some k
  pub others : (d : ℕ) → depth < d → d < n → get nodes.keys (take d p) ≡ None

-- the deepest of these, if there is any
pub record IsDeepest (nodes : Nodes Entry) (p : Path) (n : ℕ) (at : Option NodeKey) : Type 0 where
  pub some : (k : NodeKey) → at ≡ Some k → IsDeepestAt nodes p n k
  pub none : at ≡ None → (d : ℕ) → d < n → get nodes.keys (take d p) ≡ None
