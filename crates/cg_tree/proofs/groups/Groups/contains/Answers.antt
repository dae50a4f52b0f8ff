-- There is a node where there is an entry.
use Rattle.std.proofs.Common.{is_some, ap, ◌∙◌}
use Rattle.cg_tree.specs.Contents.{Contents}
use Rattle.cg_tree.proofs.Putting.{node_there}
use Rattle.cg_tree.proofs.groups.Groups.contains.Goals as goal

pub returns : goal.returns
returns c = c.is_some.ensures ∙ ap is_some c.find.ensures ∙ node_there c.self.inside.nodes c.laws.ensures.both c.args.self.now.groups (ap (λ (v : Contents). v.groups) c.self.view_is) c.args.path.now
