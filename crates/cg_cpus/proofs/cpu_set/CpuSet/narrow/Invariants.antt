use Rattle.cg_cpus.proofs.Intersection.{SoFar}
use Rattle.cg_cpus.proofs.cpu_set.CpuSet.narrow.Given as goal

abbrev pub invariant-loop-i : goal.invariant-loop-i
invariant-loop-i l = SoFar l.bits l.common l.initial.common l.self-inside.words l.i
