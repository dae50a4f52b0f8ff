use Rattle.std.proofs.Common.{is_some, refl, ap, ◌∙◌}
use Rattle.cg_tree.proofs.Rooms.{settings_there}
use Rattle.cg_tree.proofs.tree.Tree.find.Goals as goal

pub returns-clause-value : goal.returns-clause-value
returns-clause-value c = c.has_group.ensures ∙ ap is_some (settings_there c.self.inside _ c.self.view_is c.args.path.now _ refl)
