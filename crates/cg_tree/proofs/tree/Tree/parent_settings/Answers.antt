use Rattle.std.proofs.Common.{option_copied, ap, ◌∙◌}
use Rattle.cg_tree.proofs.Rooms.{parent_there}
use Rattle.cg_tree.proofs.tree.Tree.parent_settings.Goals as goal

pub returns-in_err-get_parent : goal.returns-in_err-get_parent
returns-in_err-get_parent c = ap option_copied c.from_residual.ensures ∙ parent_there c.self.inside _ c.self.view_is c.args.path.now _ c.in_err-get_parent.ensures.root c.in_err-get_parent.ensures.value

pub returns : goal.returns
returns c = c.as_ref.ensures.value ∙ parent_there c.self.inside _ c.self.view_is c.args.path.now _ c.in_ok-get_parent.ensures.root c.in_ok-get_parent.ensures.value
