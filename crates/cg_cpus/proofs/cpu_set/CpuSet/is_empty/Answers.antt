use Rattle.std.proofs.Common.{rules, tests, ap, ◌∙◌, ◌==◌}
use Rattle.std.proofs.lemmas.Iterator.{YieldsList-from_slice}
use Rattle.std.proofs.lemmas.Iterator.Search.{all_from_yields_List}
use Rattle.cg_maps.specs.FiniteSet.{is_empty_set}
use Rattle.cg_cpus.proofs.Bits.{empty_test}
use Rattle.cg_cpus.proofs.cpu_set.CpuSet.is_empty.Goals as goal

pub returns : goal.returns
returns c =
    all_from_yields_List (λ w. w == 0) _ _ _ c.all.ensures.ran (YieldsList-from_slice c.self.inside.words cc) (λ x b q k. search (rules, tests))
    ∙ empty_test c.self.inside.words c.self.invariant ∙ ap is_empty_set c.self.view_is
