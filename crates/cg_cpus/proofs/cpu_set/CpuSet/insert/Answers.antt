use Rattle.std.proofs.Common.{ap, ◌∙◌}
use Rattle.cg_maps.specs.FiniteSet.{with_member}
use Rattle.cg_cpus.proofs.Bits.{words_with_bit, set_in-with_bit}
use Rattle.cg_cpus.proofs.cpu_set.CpuSet.insert.Goals as goal

pub invariant_of-self : goal.invariant_of-self
invariant_of-self c = words_with_bit _ _ _ c.self.invariant

pub returns : goal.returns
returns c = set_in-with_bit _ _ _ c.self.invariant c.from.ensures c.requires ∙ ap (λ s. with_member s c.args.cpu) c.self.view_is
