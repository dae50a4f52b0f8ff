use Rattle.std.proofs.Common.{option_copied, ap, ◌∙◌}
use Rattle.cg_tree.proofs.Rooms.{settings_there}
use Rattle.cg_tree.proofs.tree.Tree.settings.Goals as goal

pub returns-in_err-get : goal.returns-in_err-get
returns-in_err-get c = ap option_copied c.from_residual.ensures ∙ settings_there c.self.inside _ c.self.view_is c.args.path.now _ c.in_err-get.ensures

pub returns : goal.returns
returns c = c.as_ref.ensures.value ∙ settings_there c.self.inside _ c.self.view_is c.args.path.now _ c.in_ok-get.ensures
