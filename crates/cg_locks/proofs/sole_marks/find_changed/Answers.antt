-- Where the slot tells, or nowhere.
use Rattle.std.proofs.Common.{◌≡◌, ◌<◌, ◌≤◌, Some, length, slice_get, refl, sym, ap, subst, ◌∙◌, arith}
use Rattle.std.proofs.lemmas.Bool.Decides.{nat_tests}
use Rattle.std.proofs.lemmas.Option.{slice_get_read}
use Rattle.std.specs.Option.{IfNone}
use Rattle.cg_model.specs.Footprint as model
use Rattle.cg_locks.specs.Sole.{slot_of, sole_times}
use Rattle.cg_locks.proofs.Soles.{another_there, no_slot, past_marks, stands}
use Rattle.cg_locks.proofs.sole_marks.find_changed.Goals as goal
use Rattle.cg_locks.proofs.sole_marks.find_changed.Goals.{In_ok-get, In_ok-index}

-- what the slot tells
told : (c : In_ok-index) → slice_get c.args.slots.now (slot_of (model.X c.args.path.now)) ≡ Some c.in_ok-index.field-0.now
told c =
    let slots = c.args.slots.now in
    let low : c.slot_at.result < length slots = grind (arith, nat_tests, c.in_ok-index.ensures.lookup.0) in
    ap (slice_get slots) (sym c.slot_at.ensures) ∙ slice_get_read slots (length slots) c.slot_at.result c.in_ok-index.field-0.now refl low c.in_ok-index.ensures.lookup.1

-- and what is there
there : (c : In_ok-get) → slice_get c.args.marks.now c.in_ok-index.field-0.now ≡ Some c.in_ok-get.field-0.now
there c =
    let marks = c.args.marks.now in
    let low : c.in_ok-index.field-0.now < length marks = grind (arith, nat_tests, c.in_ok-get.ensures.lookup.0) in
    slice_get_read marks (length marks) c.in_ok-index.field-0.now c.in_ok-get.field-0.now refl low c.in_ok-get.ensures.lookup.1

pub returns-in_err-index-clause-none : goal.returns-in_err-index-clause-none
returns-in_err-index-clause-none c =
    let past : length c.args.slots.now ≤ c.slot_at.result = grind (arith, nat_tests, c.in_err-index.ensures.lookup.0) in
    subst (λ r. IfNone r (sole_times (model.X c.args.path.now) c.args.marks.now ≡ 0)) (sym c.from_residual.ensures)
    (no_slot c.args.marks.now c.args.slots.now c.requires (model.X c.args.path.now) (subst (λ s. length c.args.slots.now ≤ s) c.slot_at.ensures past))

pub returns-in_err-get-clause-none : goal.returns-in_err-get-clause-none
returns-in_err-get-clause-none c =
    let past : length c.args.marks.now ≤ c.in_ok-index.field-0.now = grind (arith, nat_tests, c.in_err-get.ensures.lookup.0) in
    subst (λ r. IfNone r (sole_times (model.X c.args.path.now) c.args.marks.now ≡ 0)) (sym c.from_residual-in_err-get.ensures)
    (past_marks c.args.marks.now c.args.slots.now c.requires (model.X c.args.path.now) c.in_ok-index.field-0.now (told (goal.at.returns-in_err-get-clause-none c).In_ok-index) past)

pub returns-then-is_changed_at-clause-there : goal.returns-then-is_changed_at-clause-there
returns-then-is_changed_at-clause-there c =
    stands c.args.marks.now c.args.slots.now c.requires (model.X c.args.path.now) c.in_ok-index.field-0.now c.in_ok-get.field-0.now (there (goal.at.returns-then-is_changed_at-clause-there c).In_ok-get) (sym c.is_changed_at.ensures ∙ c.if-is_changed_at.true)

pub returns-else-is_changed_at-clause-none : goal.returns-else-is_changed_at-clause-none
returns-else-is_changed_at-clause-none c =
    another_there c.args.marks.now c.args.slots.now c.requires (model.X c.args.path.now) c.in_ok-index.field-0.now c.in_ok-get.field-0.now
    (told (goal.at.returns-else-is_changed_at-clause-none c).In_ok-index) (there (goal.at.returns-else-is_changed_at-clause-none c).In_ok-get) (sym c.is_changed_at.ensures ∙ c.if-is_changed_at.false)
