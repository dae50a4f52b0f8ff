-- What the maps of a plain tree mean in the model.
use Rattle.cg_model.specs.Tree.{Tree}
use Rattle.cg_world.specs.Entries.{tree_of_entries}
use Rattle.cg_world.specs.declared.plain.PlainTree.TheInside.{Inside}

-- the tree of the maps
abbrev pub tree_of : Inside → Tree
tree_of t = tree_of_entries t.controllers t.online t.groups.entries t.places.entries
