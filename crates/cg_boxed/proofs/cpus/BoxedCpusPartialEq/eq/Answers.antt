use Rattle.std.proofs.Common.{nat_eq, sym, ap, subst, ◌∙◌}
use Rattle.std.specs.Arc.{arc_value}
use Rattle.std.specs.Cmp.Lexicographic.{pointwise}
use Rattle.cg_maps.specs.FiniteSet.{members}
use Rattle.cg_boxed.specs.Kept.{set_kept, IsKept}
use Rattle.cg_boxed.proofs.Kept.{equal_low, low_is_not_wide, wide_is_not_low}
use Rattle.cg_boxed.proofs.cpus.BoxedCpusPartialEq.eq.Goals as goal

pub returns-in-Low-Low : goal.returns-in-Low-Low
returns-in-Low-Low c =
    let left = sym (ap set_kept c.in-Low-Low.is-0) ∙ c.self.view_is in
    let right = sym (ap set_kept c.in-Low-Low.is-1) ∙ c.other.view_is in
    equal_low c.in-Low-Low.left c.in-Low-Low.right (subst IsKept c.in-Low-Low.is-0 c.self.invariant) (subst IsKept c.in-Low-Low.is-1 c.other.invariant)
    ∙ (λ i. pointwise nat_eq (members (left i)) (members (right i)))

pub returns-in-Low-Wide : goal.returns-in-Low-Wide
returns-in-Low-Wide c =
    let left = sym (ap set_kept c.in-Low-Wide.is-0) ∙ c.self.view_is in
    let right = sym (ap set_kept c.in-Low-Wide.is-1) ∙ c.other.view_is in
    low_is_not_wide c.in-Low-Wide.field-0-0 (arc_value c.in-Low-Wide.field-0-1) (subst IsKept c.in-Low-Wide.is-1 c.other.invariant)
    ∙ (λ i. pointwise nat_eq (members (left i)) (members (right i)))

pub returns-in-Wide-Low : goal.returns-in-Wide-Low
returns-in-Wide-Low c =
    let left = sym (ap set_kept c.in-Wide-Low.is-0) ∙ c.self.view_is in
    let right = sym (ap set_kept c.in-Wide-Low.is-1) ∙ c.other.view_is in
    wide_is_not_low (arc_value c.in-Wide-Low.field-0-0) c.in-Wide-Low.field-0-1 (subst IsKept c.in-Wide-Low.is-0 c.self.invariant)
    ∙ (λ i. pointwise nat_eq (members (left i)) (members (right i)))
