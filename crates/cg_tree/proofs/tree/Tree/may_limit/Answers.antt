use Rattle.std.proofs.Common.{subst}
use Rattle.cg_tree.specs.Unlimited.{AreUnlimited}
use Rattle.cg_tree.proofs.tree.Tree.may_limit.Goals as goal

pub returns : goal.returns
returns c = λ no. subst (λ t. AreUnlimited t.tree.groups) c.self.view_is (c.self.invariant.unlimited no)
