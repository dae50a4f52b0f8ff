use Rattle.cg_runner.specs.Workers.{KeepsTelling}
use Rattle.cg_runner.proofs.workers.work.Given as goal

abbrev pub invariant-loop-place : goal.invariant-loop-place
invariant-loop-place g l = KeepsTelling l.tries l.scripts l.initial.worker l.worker
