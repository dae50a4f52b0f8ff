use Rattle.std.proofs.Common.{option_copied, ap, ◌∙◌}
use Rattle.cg_tree.specs.Contents.{Contents}
use Rattle.cg_tree.specs.Entries.{settings_of}
use Rattle.cg_tree.proofs.Seeing.{got}
use Rattle.cg_tree.proofs.groups.Groups.get.Goals as goal

pub returns-in_err-entry : goal.returns-in_err-entry
returns-in_err-entry c = ap option_copied c.from_residual.ensures ∙ got settings_of c.self.inside.nodes.values c.args.self.now.groups (ap (λ (v : Contents). v.groups) c.self.view_is) c.args.path.now _ c.in_err-entry.ensures

pub returns : goal.returns
returns c = got settings_of c.self.inside.nodes.values c.args.self.now.groups (ap (λ (v : Contents). v.groups) c.self.view_is) c.args.path.now _ c.in_ok-entry.ensures
