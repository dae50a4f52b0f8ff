-- What a tree ends as, where a `&mut` to one of its values is returned.
use Rattle.std.specs.Borrow.{Lends, Fml, RattleType, MutBor}
use Rattle.cg_path_tree.specs.declared.node.NodeKey.{NodeKey}
use Rattle.cg_path_tree.specs.Nodes.{Nodes, path_of, with_value}
use Rattle.cg_path_tree.specs.contracts.path_tree.PathTree.{the_row}

-- the path of the key has the last value written through r
abbrev pub lends_value : (V : RattleType) → MutBor (Nodes V.Denot) → NodeKey → MutBor V.Denot → Fml
lends_value V t key r = Lends (the_row V) V t r (with_value t.now (path_of t.now.keys key))
