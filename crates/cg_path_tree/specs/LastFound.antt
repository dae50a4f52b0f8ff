-- What a tree remembers of the path that it looked up last.
use Rattle.std.specs.Prelude.{◌≡◌, List, true, false, None}
use Rattle.slab.specs.Slab as slab
use Rattle.cg_maps.specs.FiniteMap.{FiniteMap, from_entries, get}
use Rattle.cg_name.specs.Path.{path_cmp, is_root}
use Rattle.cg_path_tree.specs.declared.last_found.LastFound.{LastFound}
use Rattle.cg_path_tree.specs.declared.node.Node.{Node}
use Rattle.cg_path_tree.specs.declared.node.NodeKey.{NodeKey}
use Rattle.cg_path_tree.specs.Nodes.{parent_path}
use Rattle.cg_path_tree.specs.Chains.{link_in, AreChained}
use Rattle.cg_path_tree.specs.Linked.{entries_of, IsLinked}

-- these nodes have what is remembered at the path, and at the one that is one name shorter
pub record IsTrueOf (keys : FiniteMap path_cmp NodeKey) (l : LastFound) : Type 0 where
  pub node : l.node ≡ get keys l.path
  pub root : is_root l.path ≡ true → l.parent ≡ None
  pub parent : is_root l.path ≡ false → l.parent ≡ get keys (parent_path l.path)

-- the keys, the chains and the nodes belong together, and what is remembered is so
pub record AreKept {V : Type 0} (heads order : List NodeKey) (nodes : slab.Slab (Node V)) (l : LastFound) : Type 0 where
  pub linked : IsLinked (entries_of nodes order) nodes
  pub chained : AreChained order heads (link_in nodes)
  pub last : IsTrueOf (from_entries path_cmp (entries_of nodes order)) l
