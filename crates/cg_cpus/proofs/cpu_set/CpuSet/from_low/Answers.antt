use Rattle.std.proofs.Common.{rules}
use Rattle.cg_cpus.proofs.Low.{low_words}
use Rattle.cg_cpus.proofs.cpu_set.CpuSet.from_low.Goals as goal

pub returns : goal.returns
returns c = low_words c.args.word _ (search rules)
