use Rattle.cg_cpus.proofs.Low.{low_zero}
use Rattle.cg_boxed.proofs.cpus.BoxedCpus.empty.Goals as goal

pub returns : goal.returns
returns c = low_zero
