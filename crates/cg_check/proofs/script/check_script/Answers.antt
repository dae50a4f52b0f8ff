use Rattle.std.proofs.Common.{Err, ap}
use Rattle.std.proofs.lemmas.Result.{IfOk-weaker}
use Rattle.cg_check.proofs.script.check_script.Goals as goal

pub returns-in-Err-Syntax-clause-wrong : goal.returns-in-Err-Syntax-clause-wrong
returns-in-Err-Syntax-clause-wrong c =
    IfOk-weaker c.why_no_script.result _ _ (λ faults h more. c.in-Err-Syntax.ensures.syntax (ap (λ e. Err e) c.in-Err-Syntax.field-0-is)) c.why_no_script.ensures
