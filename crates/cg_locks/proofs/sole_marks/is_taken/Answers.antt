-- Whose slot it would be is told by the slot.
use Rattle.std.proofs.Common.{◌≡◌, ◌<◌, ◌≤◌, Some, length, slice_get, refl, arith}
use Rattle.std.proofs.lemmas.Bool.Decides.{nat_tests}
use Rattle.std.proofs.lemmas.Option.{slice_get_read}
use Rattle.cg_locks.proofs.Soles.{free_other, free_past}
use Rattle.cg_locks.proofs.sole_marks.is_taken.Goals as goal
use Rattle.cg_locks.proofs.sole_marks.is_taken.Goals.{In-Some}

within : (c : In-Some) → c.args.slot < length c.args.slots.now
within c = grind (arith, nat_tests, c.in-Some.ensures.lookup.0)

told : (c : In-Some) → slice_get c.args.slots.now c.args.slot ≡ Some c.in-Some.index.now
told c = slice_get_read c.args.slots.now (length c.args.slots.now) c.args.slot c.in-Some.index.now refl (within c) c.in-Some.ensures.lookup.1

pub returns-in-Some-get : goal.returns-in-Some-get
returns-in-Some-get c = λ other.
    let s = (goal.at.returns-in-Some-get c).In-Some in
    let marks = c.args.marks.now in
    let low : c.in-Some.index.now < length marks = grind (arith, nat_tests, c.in-Some-get.ensures.lookup.0) in
    free_other marks c.args.slots.now c.requires c.args.slot c.in-Some.index.now c.in-Some-get.there.now (within s) (told s)
    (slice_get_read marks (length marks) c.in-Some.index.now c.in-Some-get.there.now refl low c.in-Some-get.ensures.lookup.1) other

pub returns-in-None-get : goal.returns-in-None-get
returns-in-None-get c = λ _.
    let s = (goal.at.returns-in-None-get c).In-Some in
    let past : length c.args.marks.now ≤ c.in-Some.index.now = grind (arith, nat_tests, c.in-None-get.ensures.lookup.0) in
    free_past c.args.marks.now c.args.slots.now c.requires c.args.slot c.in-Some.index.now (within s) (told s) past
