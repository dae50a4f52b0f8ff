use Rattle.std.proofs.Common.{length, ◌∙◌}
use Rattle.cg_tree.proofs.Rising.{ancestors_as}
use Rattle.cg_tree.proofs.tree.Tree.above.Goals as goal

pub returns : goal.returns
returns c = c.above.ensures ∙ ancestors_as c.groups.result.now.groups c.args.self.now.tree c.groups.ensures.present c.args.path.now (length c.args.path.now)
