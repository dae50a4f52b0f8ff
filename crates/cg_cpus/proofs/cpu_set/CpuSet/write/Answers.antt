use Rattle.std.proofs.Common.{ℕ, ◌<◌, IsTrue, subst}
use Rattle.cg_maps.specs.FiniteSet.{has}
use Rattle.cg_cpus.proofs.Bits.{below_limit}
use Rattle.cg_cpus.proofs.cpu_set.CpuSet.write.Goals as goal

pub append_runs-written-requires : goal.append_runs-written-requires
append_runs-written-requires c = subst (λ s. (n : ℕ) → IsTrue (has s n) → n < 1024) c.self.view_is (below_limit _)

pub returns-clause-below : goal.returns-clause-below
returns-clause-below c = subst (λ s. (n : ℕ) → IsTrue (has s n) → n < 1024) c.self.view_is (below_limit _)
