use Rattle.std.proofs.Common.{ℕ, ◌≤◌, ◌<◌, IsSome}
use Rattle.cg_history.specs.SessionMap.{found}
use Rattle.cg_desk.proofs.auditing.has_all.Given as goal

-- those before have one
abbrev pub invariant-loop-number : goal.invariant-loop-number
invariant-loop-number l = (n : ℕ) → 1 ≤ n → n < l.number → IsSome (found n l.rests)
