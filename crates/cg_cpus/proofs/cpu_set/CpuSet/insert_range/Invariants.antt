use Rattle.std.proofs.Common.{ℕ, ◌*◌, ◌<◌, ◌≤◌, ◌↔◌, ◌⊎◌, IsTrue}
use Rattle.cg_maps.specs.FiniteSet.{has}
use Rattle.cg_cpus.specs.Words.{AreWords, set_in}
use Rattle.cg_cpus.proofs.cpu_set.CpuSet.insert_range.Given as goal

abbrev pub invariant-loop-index : goal.invariant-loop-index
invariant-loop-index l = record {
  words : AreWords l.self-inside.words;
  done : (n : ℕ) → IsTrue (has (set_in l.self-inside.words) n) ↔ (IsTrue (has l.fn.self n) ⊎ ((l.first ≤ n) × (n ≤ l.last) × (n < l.index * 64)));
}
