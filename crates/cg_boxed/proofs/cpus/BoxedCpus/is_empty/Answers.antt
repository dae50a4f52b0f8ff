use Rattle.std.proofs.Common.{sym, ap, subst, ◌∙◌}
use Rattle.std.specs.Arc.{arc_value}
use Rattle.cg_maps.specs.FiniteSet.{is_empty_set}
use Rattle.cg_cpus.proofs.Low.{low_empty}
use Rattle.cg_boxed.specs.Kept.{set_kept, IsKept}
use Rattle.cg_boxed.proofs.Kept.{not_empty}
use Rattle.cg_boxed.proofs.cpus.BoxedCpus.is_empty.Goals as goal

pub returns-in-Low : goal.returns-in-Low
returns-in-Low c =
    let is = sym (ap set_kept c.in-Low.is) ∙ c.self.view_is in
    low_empty c.in-Low.word (subst IsKept c.in-Low.is c.self.invariant) ∙ ap is_empty_set is

pub returns-in-Wide : goal.returns-in-Wide
returns-in-Wide c =
    let is = sym (ap set_kept c.in-Wide.is) ∙ c.self.view_is in
    sym (not_empty (arc_value c.in-Wide.field-0) (subst IsKept c.in-Wide.is c.self.invariant)) ∙ ap is_empty_set is
