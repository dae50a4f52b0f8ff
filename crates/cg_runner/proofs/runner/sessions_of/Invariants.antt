use Rattle.std.proofs.Common.{◌≡◌, map}
use Rattle.cg_runner.proofs.runner.sessions_of.Given as goal

abbrev pub invariant-loop-worker : goal.invariant-loop-worker
invariant-loop-worker l = l.sessions.items ≡ map (λ w. w.session) l.yielded
