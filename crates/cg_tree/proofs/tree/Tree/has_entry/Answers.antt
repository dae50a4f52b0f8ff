-- The map has an entry where the tree has one.
use Rattle.std.proofs.Common.{◌∙◌}
use Rattle.cg_tree.proofs.Rooms.{entry_there}
use Rattle.cg_tree.proofs.tree.Tree.has_entry.Goals as goal

pub returns : goal.returns
returns c = c.contains.ensures ∙ entry_there c.self.inside c.args.self.now c.self.view_is c.args.path.now
