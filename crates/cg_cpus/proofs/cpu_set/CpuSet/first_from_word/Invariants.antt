use Rattle.std.proofs.Common.{◌≡◌, ℕ, ◌*◌, ◌<◌, ◌≤◌, not}
use Rattle.cg_maps.specs.FiniteSet.{has}
use Rattle.cg_cpus.proofs.cpu_set.CpuSet.first_from_word.Given as goal

abbrev pub invariant-loop-index : goal.invariant-loop-index
invariant-loop-index l = record {
  bounds : (l.first ≤ l.index) × (l.index ≤ 16);
  before : (n : ℕ) → l.first * 64 ≤ n → n < l.index * 64 → has l.self n ≡ not l.present;
}
