use Rattle.std.proofs.Common.{rules}
use Rattle.cg_cpus.proofs.Bits.{set_in-zeros}
use Rattle.cg_cpus.proofs.cpu_set.CpuSet.empty.Goals as goal

pub returns : goal.returns
returns c = set_in-zeros _ (search rules)
