use Rattle.std.proofs.Common.{is_some, refl, sym, ap, ◌∙◌}
use Rattle.cg_tree.proofs.Rooms.{entry_there, settings_there}
use Rattle.cg_tree.proofs.tree.Tree.has_dead_entries.Goals as goal

pub returns : goal.returns
returns c none p there = sym (ap is_some (settings_there c.self.inside c.args.self.now c.self.view_is p _ refl)) ∙ c.has_dead.ensures none p (entry_there c.self.inside c.args.self.now c.self.view_is p ∙ there)
