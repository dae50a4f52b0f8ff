use Rattle.std.proofs.Common.{ℕ, List, subst}
use Rattle.std.specs.Prelude.{IfOk, Result, Ok, Err}
use Rattle.cg_runner.specs.Closed.{HaveHappened, IsClosed}
use Rattle.cg_runner.specs.declared.fault.RunFault.{RunFault}
use Rattle.cg_runner.specs.declared.runner.RunReport.{RunReport}
use Rattle.cg_script.specs.declared.script.Script.{Script}
use Rattle.cg_runner.proofs.runner.run_scripts.Goals as goal

-- a run that has happened was closed
closed : (workers tries : ℕ) (scripts : List Script) (r : Result RunReport RunFault)
    → IfOk r (λ t. HaveHappened workers tries scripts t.ends.items t.core.history) → IfOk r (λ t. IsClosed workers t.core.history)
closed workers tries scripts (Ok t) h = (h.0, h.1, h.2, h.3)
closed workers tries scripts (Err e) h = h

pub returns-clause-happened : goal.returns-clause-happened
returns-clause-happened g c =
    subst (λ s. IfOk c.run_at.result (λ t. HaveHappened c.args.workers c.args.tries s t.ends.items t.core.history)) c.as_slice.ensures.value c.run_at.ensures.happened

pub returns-clause-closed : goal.returns-clause-closed
returns-clause-closed g c = closed c.args.workers c.args.tries c.as_slice.result.now c.run_at.result c.run_at.ensures.happened
