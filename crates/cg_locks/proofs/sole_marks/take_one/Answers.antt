-- The mark that stands there is held once less, where it is held.
use Rattle.std.proofs.Common.{◌≡◌, ◌-◌, ◌+◌, ◌<◌, length, slice_get, Some, refl, sym, subst, ◌∙◌, arith}
use Rattle.std.proofs.lemmas.Option.{slice_get_read, slice_get_within}
use Rattle.cg_locks.specs.Meaning.{mark_of}
use Rattle.cg_locks.specs.Sole.{AreFound, StandsAt}
use Rattle.cg_locks.proofs.Soles.{found_set, one_less, same_there, times_there}
use Rattle.cg_locks.proofs.sole_marks.take_one.Goals as goal
use Rattle.cg_locks.proofs.sole_marks.take_one.Goals.{After-index_mut-there, In-Some}

pub find_near-requires : goal.find_near-requires
find_near-requires c = subst (λ es. AreFound es c.args.slots.now) (sym c.deref.ensures.value) c.requires

stands : (c : In-Some) → StandsAt c.args.marks.now.items c.in-Some.index (mark_of c.args.mark.now)
stands c = subst (λ es. StandsAt es c.in-Some.index (mark_of c.args.mark.now)) c.deref.ensures.value c.in-Some.ensures.there

within : (c : In-Some) → c.in-Some.index < length c.args.marks.now.items
within c = slice_get_within c.args.marks.now.items c.in-Some.index (stands c).there (stands c).found

pub index_mut-there-requires : goal.index_mut-there-requires
index_mut-there-requires c =
    let low = within (goal.at.index_mut-there-requires c).In-Some in
    let len = c.args.marks.now.ok.0 in
    omega (arith, low, len)

there : (c : After-index_mut-there) → slice_get c.args.marks.now.items c.in-Some.index ≡ Some c.index_mut-there.result.now
there c =
    slice_get_read c.args.marks.now.items (length c.args.marks.now.items) c.in-Some.index c.index_mut-there.result.now refl (within (goal.at.After-index_mut-there c).In-Some) c.index_mut-there.ensures.value

pub returns-then-there-eq0-clause-found : goal.returns-then-there-eq0-clause-found
returns-then-there-eq0-clause-found c =
    found_set c.args.marks.now.items c.args.slots.now c.requires c.in-Some.index c.index_mut-there.result.now c.index_mut-there.result.now
    (there (goal.at.returns-then-there-eq0-clause-found c).After-index_mut-there) refl refl

pub returns-then-there-eq0-clause-none : goal.returns-then-there-eq0-clause-none
returns-then-there-eq0-clause-none c = λ _.
    let k = goal.at.returns-then-there-eq0-clause-none c in
    sym (times_there c.args.marks.now.items c.in-Some.index (mark_of c.args.mark.now) (stands k.In-Some) c.index_mut-there.result.now (there k.After-index_mut-there)) ∙ c.if-there-eq0.true

pub returns-clause-found : goal.returns-clause-found
returns-clause-found c =
    found_set c.args.marks.now.items c.args.slots.now c.requires c.in-Some.index c.index_mut-there.result.now _ (there (goal.at.returns-clause-found c).After-index_mut-there) refl refl

pub returns-clause-gone : goal.returns-clause-gone
returns-clause-gone c = λ _.
    let k = goal.at.returns-clause-gone c in
    let es = c.args.marks.now.items in
    let e = c.index_mut-there.result.now in
    let at = there k.After-index_mut-there in
    let one : e.times ≡ (e.times - 1) + 1 = omega (arith, c.if-there-eq0.false) in
    one_less es c.in-Some.index e _ (mark_of c.args.mark.now) at (same_there es c.in-Some.index (mark_of c.args.mark.now) (stands k.In-Some) e at) refl one
