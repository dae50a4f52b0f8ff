use Rattle.std.proofs.Common.{◌∙◌, arith}
use Rattle.cg_boxed.proofs.Limits.{limit_of_number, max_is}
use Rattle.cg_boxed.proofs.limit.KeptLimit.get.Goals as goal

pub returns-then-self-le-LAST : goal.returns-then-self-le-LAST
returns-then-self-le-LAST c = limit_of_number c.self.inside.number c.up_to.result c.if-self-le-LAST.true c.up_to.ensures ∙ c.self.view_is

pub returns-else-self-le-LAST : goal.returns-else-self-le-LAST
returns-else-self-le-LAST c = max_is c.self.inside.number (omega (arith, c.if-self-le-LAST.false)) ∙ c.self.view_is
