use Rattle.std.proofs.Common.{option_copied, ap, ◌∙◌}
use Rattle.cg_path_tree.specs.Nodes.{parent_path}
use Rattle.cg_tree.specs.Contents.{Contents}
use Rattle.cg_tree.specs.Entries.{settings_of}
use Rattle.cg_tree.proofs.Seeing.{got}
use Rattle.cg_tree.proofs.groups.Groups.get_parent.Goals as goal

pub returns-in_err-parent_entry-clause-value : goal.returns-in_err-parent_entry-clause-value
returns-in_err-parent_entry-clause-value c below = ap option_copied c.from_residual.ensures ∙ got settings_of c.self.inside.nodes.values c.args.self.now.groups (ap (λ (v : Contents). v.groups) c.self.view_is) (parent_path c.args.path.now) _ (c.in_err-parent_entry.ensures.value below)

pub returns-clause-value : goal.returns-clause-value
returns-clause-value c below = got settings_of c.self.inside.nodes.values c.args.self.now.groups (ap (λ (v : Contents). v.groups) c.self.view_is) (parent_path c.args.path.now) _ (c.in_ok-parent_entry.ensures.value below)
