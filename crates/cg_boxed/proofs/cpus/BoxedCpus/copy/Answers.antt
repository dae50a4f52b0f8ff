-- A set that is shared isn't empty.
use Rattle.std.proofs.Common.{sym, ap, subst, ◌∙◌, true≢false}
use Rattle.std.specs.Arc.{arc_value}
use Rattle.cg_maps.specs.FiniteSet.{is_empty_set}
use Rattle.cg_boxed.specs.Kept.{set_kept, IsKept}
use Rattle.cg_boxed.proofs.Kept.{not_empty}
use Rattle.cg_boxed.proofs.cpus.BoxedCpus.copy.Goals as goal

pub returns-in_err-clone-in-Wide-clause-empty : goal.returns-in_err-clone-in-Wide-clause-empty
returns-in_err-clone-in-Wide-clause-empty c = λ empty.
    let is = sym (ap set_kept c.in-Wide.is) ∙ c.self.view_is in
    let some = not_empty (arc_value c.in-Wide.set) (subst IsKept c.in-Wide.is c.self.invariant) in
    absurd (true≢false (sym empty ∙ sym (ap is_empty_set is) ∙ some))
