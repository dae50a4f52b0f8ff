-- Where the slot tells, or nowhere.
use Rattle.std.proofs.Common.{◌≡◌, ◌<◌, ◌≤◌, Some, length, slice_get, refl, sym, ap, subst, ◌∙◌, arith}
use Rattle.std.proofs.lemmas.Bool.Decides.{nat_tests}
use Rattle.std.proofs.lemmas.Option.{slice_get_read}
use Rattle.std.specs.Option.{IfNone}
use Rattle.cg_locks.specs.Meaning.{mark_of}
use Rattle.cg_locks.specs.Sole.{slot_of, sole_times}
use Rattle.cg_locks.proofs.Soles.{another_there, no_slot, past_marks, stands}
use Rattle.cg_locks.proofs.sole_marks.find.Goals as goal
use Rattle.cg_locks.proofs.sole_marks.find.Goals.{In_ok-get, In_ok-index}

-- what the slot tells
told : (c : In_ok-index) → slice_get c.args.slots.now (slot_of (mark_of c.args.mark.now)) ≡ Some c.in_ok-index.field-0.now
told c =
    let slots = c.args.slots.now in
    let low : c.args.slot < length slots = grind (arith, nat_tests, c.in_ok-index.ensures.lookup.0) in
    ap (slice_get slots) (sym c.requires.slot) ∙ slice_get_read slots (length slots) c.args.slot c.in_ok-index.field-0.now refl low c.in_ok-index.ensures.lookup.1

-- and what is there
there : (c : In_ok-get) → slice_get c.args.marks.now c.in_ok-index.field-0.now ≡ Some c.in_ok-get.field-0.now
there c =
    let marks = c.args.marks.now in
    let low : c.in_ok-index.field-0.now < length marks = grind (arith, nat_tests, c.in_ok-get.ensures.lookup.0) in
    slice_get_read marks (length marks) c.in_ok-index.field-0.now c.in_ok-get.field-0.now refl low c.in_ok-get.ensures.lookup.1

pub returns-in_err-index-clause-none : goal.returns-in_err-index-clause-none
returns-in_err-index-clause-none c =
    let past : length c.args.slots.now ≤ c.args.slot = grind (arith, nat_tests, c.in_err-index.ensures.lookup.0) in
    subst (λ r. IfNone r (sole_times (mark_of c.args.mark.now) c.args.marks.now ≡ 0)) (sym c.from_residual.ensures)
    (no_slot c.args.marks.now c.args.slots.now c.requires.found (mark_of c.args.mark.now) (subst (λ s. length c.args.slots.now ≤ s) c.requires.slot past))

pub returns-in_err-get-clause-none : goal.returns-in_err-get-clause-none
returns-in_err-get-clause-none c =
    let past : length c.args.marks.now ≤ c.in_ok-index.field-0.now = grind (arith, nat_tests, c.in_err-get.ensures.lookup.0) in
    subst (λ r. IfNone r (sole_times (mark_of c.args.mark.now) c.args.marks.now ≡ 0)) (sym c.from_residual-in_err-get.ensures)
    (past_marks c.args.marks.now c.args.slots.now c.requires.found (mark_of c.args.mark.now) c.in_ok-index.field-0.now (told (goal.at.returns-in_err-get-clause-none c).In_ok-index) past)

pub returns-then-is_same-clause-there : goal.returns-then-is_same-clause-there
returns-then-is_same-clause-there c =
    stands c.args.marks.now c.args.slots.now c.requires.found (mark_of c.args.mark.now) c.in_ok-index.field-0.now c.in_ok-get.field-0.now (there (goal.at.returns-then-is_same-clause-there c).In_ok-get) (sym c.is_same.ensures ∙ c.if-is_same.true)

pub returns-else-is_same-clause-none : goal.returns-else-is_same-clause-none
returns-else-is_same-clause-none c =
    another_there c.args.marks.now c.args.slots.now c.requires.found (mark_of c.args.mark.now) c.in_ok-index.field-0.now c.in_ok-get.field-0.now
    (told (goal.at.returns-else-is_same-clause-none c).In_ok-index) (there (goal.at.returns-else-is_same-clause-none c).In_ok-get) (sym c.is_same.ensures ∙ c.if-is_same.false)
