use Rattle.cg_cpus.proofs.Filling.{bit_of_range}
use Rattle.cg_cpus.proofs.cpu_set.bits_of_range.Goals as goal

pub returns : goal.returns
returns c = λ k m. bit_of_range c.args.first c.args.last c.args.index _ _ k c.requires.0 c.requires.1 c.saturating_sub-low.ensures c.min-high.ensures m
