use Rattle.std.proofs.Common.{nat_eq, ◌∙◌}
use Rattle.std.specs.Cmp.Lexicographic.{pointwise}
use Rattle.cg_maps.specs.FiniteSet.{members}
use Rattle.cg_cpus.proofs.Equal.{equal_test}
use Rattle.cg_cpus.proofs.cpu_set.CpuSetPartialEq.eq.Goals as goal

pub returns : goal.returns
returns c = c.eq.ensures ∙ equal_test c.self.inside.words c.other.inside.words c.self.invariant c.other.invariant
    ∙ (λ i. pointwise nat_eq (members (c.self.view_is i)) (members (c.other.view_is i)))
