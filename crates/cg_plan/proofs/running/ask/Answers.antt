use Rattle.std.proofs.lemmas.Bool.{OnFalse_at}
use Rattle.cg_history.specs.Meaning.{answer_of}
use Rattle.cg_plan.proofs.Accepted.{not_refused}
use Rattle.cg_plan.proofs.running.ask.Goals as goal

pub returns-in_default : goal.returns-in_default
returns-in_default c = λ _.
    let fine = not_refused c.step.result c.in_default.not-Refused in
    (answer_of c.step.result, OnFalse_at fine.1 c.step.ensures.machine, fine.0)
