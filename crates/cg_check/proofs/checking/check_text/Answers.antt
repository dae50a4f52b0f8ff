use Rattle.std.proofs.Common.{subst}
use Rattle.std.proofs.lemmas.Result.{IfOk-weaker}
use Rattle.cg_check.specs.Right.{IsRight}
use Rattle.cg_check.proofs.checking.check_text.Goals as goal

pub returns-in-World-clause-wrong : goal.returns-in-World-clause-wrong
returns-in-World-clause-wrong c =
    IfOk-weaker c.check_world.result _ _
    (λ faults h more right. let world = subst (λ kind. IsRight kind c.args.text.now) c.in-World.is right in h more world.0 world.1)
    c.check_world.ensures.wrong
