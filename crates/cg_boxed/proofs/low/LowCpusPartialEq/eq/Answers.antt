use Rattle.std.proofs.Common.{nat_eq, ◌∙◌}
use Rattle.std.specs.Cmp.Lexicographic.{pointwise}
use Rattle.cg_maps.specs.FiniteSet.{members}
use Rattle.cg_boxed.proofs.Kept.{equal_low}
use Rattle.cg_boxed.proofs.low.LowCpusPartialEq.eq.Goals as goal

pub returns : goal.returns
returns c =
    equal_low c.self.inside.word c.other.inside.word c.self.invariant c.other.invariant
    ∙ (λ i. pointwise nat_eq (members (c.self.view_is i)) (members (c.other.view_is i)))
