use Rattle.std.proofs.Common.{is_some, ap, ◌∙◌}
use Rattle.std.specs.Option.{option_flatten}
use Rattle.cg_tree.specs.Contents.{Contents}
use Rattle.cg_tree.specs.Entries.{settings_of}
use Rattle.cg_tree.proofs.Seeing.{got}
use Rattle.cg_tree.proofs.groups.Groups.has_group.Goals as goal

pub returns-in-Some : goal.returns-in-Some
returns-in-Some c =
    c.is_some.ensures ∙ ap (λ w. is_some (option_flatten w)) (got settings_of c.self.inside.nodes.values c.args.self.now.groups (ap (λ (v : Contents). v.groups) c.self.view_is) c.args.path.now _ c.in-Some.ensures)

pub returns-in-None : goal.returns-in-None
returns-in-None c = ap (λ w. is_some (option_flatten w)) (got settings_of c.self.inside.nodes.values c.args.self.now.groups (ap (λ (v : Contents). v.groups) c.self.view_is) c.args.path.now _ c.in-None.ensures)
