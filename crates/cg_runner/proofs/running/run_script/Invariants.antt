use Rattle.std.proofs.Common.{◌-◌, ◌≤◌}
use Rattle.cg_runner.specs.Trying.{TriedSoOften}
use Rattle.cg_runner.proofs.running.run_script.Given as goal

abbrev pub invariant-loop-tried : goal.invariant-loop-tried
invariant-loop-tried g l = (1 ≤ l.tried) × TriedSoOften l.script (l.tried - 1) l.initial.session l.session
