use Rattle.std.proofs.Common.{◌≡◌, ℕ, ◌*◌, ◌≤◌, false}
use Rattle.cg_maps.specs.FiniteSet.{has}
use Rattle.cg_cpus.proofs.cpu_set.CpuSet.last.Given as goal

abbrev pub invariant-loop-end : goal.invariant-loop-end
invariant-loop-end l = record { bound : l.end ≤ 16; none : (n : ℕ) → l.end * 64 ≤ n → has l.self n ≡ false }

abbrev pub decreases-loop-end : goal.decreases-loop-end
decreases-loop-end l = l.end
