use Rattle.std.proofs.Common.{suc, length, ◌∙◌}
use Rattle.cg_tree.proofs.Rising.{ancestors_as}
use Rattle.cg_tree.proofs.tree.Tree.ancestors.Goals as goal

pub returns : goal.returns
returns c = c.ancestors.ensures ∙ ancestors_as c.groups.result.now.groups c.args.self.now.tree c.groups.ensures.present c.args.path.now (suc (length c.args.path.now))
