-- A mark that stands there is held once more; a new one goes to the end, and its slot tells where.
use Rattle.std.proofs.Common.{◌≡◌, ◌<◌, length, set, slice_get, Some, refl, sym, ap, subst, subst₂, ◌∙◌, arith}
use Rattle.std.proofs.lemmas.Option.{slice_get_read, slice_get_within}
use Rattle.cg_locks.specs.declared.sole_marks.SoleMark.{SoleMark}
use Rattle.cg_locks.specs.Meaning.{mark_of}
use Rattle.cg_locks.specs.Sole.{slot_of, AreFound, IsFree, IsOnceMore, StandsAt}
use Rattle.cg_locks.proofs.Soles.{found_pushed, found_set, new_one, one_more, same_there}
use Rattle.cg_locks.proofs.sole_marks.put.Goals as goal
use Rattle.cg_locks.proofs.sole_marks.put.Goals.{After-index_mut-there, In-Some, In_ok-push}

pub find-requires-clause-found : goal.find-requires-clause-found
find-requires-clause-found c = subst₂ AreFound (sym c.deref.ensures.value) (sym c.deref-2.ensures.value) c.requires

within : (c : In-Some) → c.in-Some.index < length c.args.marks.now.items
within c =
    let low = slice_get_within c.deref.result.now c.in-Some.index c.in-Some.ensures.there.there c.in-Some.ensures.there.found in
    subst (λ es. c.in-Some.index < length es) c.deref.ensures.value low

pub index_mut-there-requires : goal.index_mut-there-requires
index_mut-there-requires c =
    let low = within (goal.at.index_mut-there-requires c).In-Some in
    let len = c.args.marks.now.ok.0 in
    omega (arith, low, len)

there : (c : After-index_mut-there) → slice_get c.args.marks.now.items c.in-Some.index ≡ Some c.index_mut-there.result.now
there c =
    slice_get_read c.args.marks.now.items (length c.args.marks.now.items) c.in-Some.index c.index_mut-there.result.now refl (within (goal.at.After-index_mut-there c).In-Some) c.index_mut-there.ensures.value

pub returns-in_default-checked_add-clause-found : goal.returns-in_default-checked_add-clause-found
returns-in_default-checked_add-clause-found c =
    found_set c.args.marks.now.items c.args.slots.now.items c.requires c.in-Some.index c.index_mut-there.result.now c.index_mut-there.result.now
    (there (goal.at.returns-in_default-checked_add-clause-found c).After-index_mut-there) refl refl

pub returns-in-Some-clause-found : goal.returns-in-Some-clause-found
returns-in-Some-clause-found c =
    found_set c.args.marks.now.items c.args.slots.now.items c.requires c.in-Some.index c.index_mut-there.result.now _
    (there (goal.at.returns-in-Some-clause-found c).After-index_mut-there) refl refl

pub returns-in-Some-clause-added : goal.returns-in-Some-clause-added
returns-in-Some-clause-added c =
    let es = c.args.marks.now.items in
    let at = there (goal.at.returns-in-Some-clause-added c).After-index_mut-there in
    let stands = subst (λ l. StandsAt l c.in-Some.index (mark_of c.args.mark.now)) c.deref.ensures.value c.in-Some.ensures.there in
    one_more es c.in-Some.index c.index_mut-there.result.now _ (mark_of c.args.mark.now) at
    (same_there es c.in-Some.index (mark_of c.args.mark.now) stands c.index_mut-there.result.now at) refl c.in-Some-checked_add.ensures.1

pub is_taken-requires : goal.is_taken-requires
is_taken-requires c = subst₂ AreFound (sym c.deref-else-len-ge-MOST.ensures.value) (sym c.deref-else-len-ge-MOST-2.ensures.value) c.requires

pub returns-in_err-push-clause-found : goal.returns-in_err-push-clause-found
returns-in_err-push-clause-found c = subst (λ es. AreFound es c.args.slots.now.items) (sym c.in_err-push.ensures.items) c.requires

-- the new one
abbrev new : In_ok-push → SoleMark
new c = record { mark = c.in_ok-copy.copy; slot = c.slot_of-slot.result; times = 1 }

pub returns-clause-found : goal.returns-clause-found
returns-clause-found c =
    let k = (goal.at.returns-clause-found c).In_ok-push in
    let es = c.args.marks.now.items in
    let slots = c.args.slots.now.items in
    let free : IsFree es slots c.slot_of-slot.result =
    subst₂ (λ a b. IsFree a b c.slot_of-slot.result) c.deref-else-len-ge-MOST.ensures.value c.deref-else-len-ge-MOST-2.ensures.value (c.is_taken.ensures c.if-is_taken.false) in
    let end : length es ≡ c.len-index.result = sym (c.len-index.ensures ∙ c.args.marks.now.ok.0) in
    subst₂ (λ a n. AreFound a (set slots c.slot_of-slot.result n)) (sym c.in_ok-push.ensures.items) end
    (found_pushed es slots c.requires (new k) c.slot_of-slot.result free refl (c.slot_of-slot.ensures ∙ ap slot_of (sym c.in_ok-copy.ensures)))

pub returns-clause-added : goal.returns-clause-added
returns-clause-added c =
    let es = c.args.marks.now.items in
    subst (IsOnceMore es (mark_of c.args.mark.now)) (sym c.in_ok-push.ensures.items) (new_one es (new (goal.at.returns-clause-added c).In_ok-push) (mark_of c.args.mark.now) c.in_ok-copy.ensures refl)
