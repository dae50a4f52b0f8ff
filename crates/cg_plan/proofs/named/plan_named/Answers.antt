use Rattle.std.proofs.Common.{inr, rules}
use Rattle.cg_plan.proofs.named.plan_named.Goals as goal

pub returns-in-Err-clause-told : goal.returns-in-Err-clause-told
returns-in-Err-clause-told g c = inr (inr (c.in-Err.fault, c.stop.ensures.status, c.stop.ensures.line, λ e. c.in-Err.ensures.writes (search rules)))
