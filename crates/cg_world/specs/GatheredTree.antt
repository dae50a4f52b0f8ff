-- What a tree that is being gathered means in the model.
use Rattle.cg_model.specs.Tree.{Tree}
use Rattle.cg_world.specs.Entries.{tree_of_entries}
use Rattle.cg_world.specs.declared.gathered_tree.GatheredTree.TheInside.{Inside}

-- the tree of what was gathered
abbrev pub gathered_tree : Inside → Tree
gathered_tree t = tree_of_entries t.controllers t.online t.groups t.places
