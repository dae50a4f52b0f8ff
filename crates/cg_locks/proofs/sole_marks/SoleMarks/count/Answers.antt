use Rattle.std.proofs.Common.{◌≡◌, ◌<◌, length, refl, sym, ap, subst, subst₂, ◌∙◌, arith}
use Rattle.std.proofs.lemmas.Option.{slice_get_read, slice_get_within}
use Rattle.cg_locks.specs.Meaning.{mark_of}
use Rattle.cg_locks.specs.Holdings.{holdings}
use Rattle.cg_locks.specs.Sole.{sole_times, AreFound, StandsAt}
use Rattle.cg_locks.proofs.Soles.{no_count, own_count, times_there, told_sole}
use Rattle.cg_locks.proofs.sole_marks.SoleMarks.count.Goals as goal
use Rattle.cg_locks.proofs.sole_marks.SoleMarks.count.Goals.{In-Some}

pub find-requires-clause-found : goal.find-requires-clause-found
find-requires-clause-found c = subst₂ AreFound (sym c.deref.ensures.value) (sym c.deref-2.ensures.value) c.self.invariant

stands : (c : In-Some) → StandsAt c.self.inside.marks.items c.in-Some.index (mark_of c.args.mark.now)
stands c = subst (λ es. StandsAt es c.in-Some.index (mark_of c.args.mark.now)) c.deref.ensures.value c.in-Some.ensures.there

within : (c : In-Some) → c.in-Some.index < length c.self.inside.marks.items
within c = slice_get_within c.self.inside.marks.items c.in-Some.index (stands c).there (stands c).found

-- the holder holds it so often
own : (c : In-Some) → holdings c.args.self.now c.args.transaction.0 (mark_of c.args.mark.now) ≡ sole_times (mark_of c.args.mark.now) c.self.inside.marks.items
own c =
    told_sole c.self.inside.holder c.self.inside.marks.items c.args.self.now c.self.view_is c.args.transaction.0 (mark_of c.args.mark.now)
    ∙ own_count c.self.inside.holder c.args.transaction.0 c.self.inside.marks.items (mark_of c.args.mark.now) c.if-self-transaction.false

pub index-requires : goal.index-requires
index-requires c = let low = within c in let len = c.self.inside.marks.ok.0 in omega (arith, low, len)

pub returns-then-self-transaction : goal.returns-then-self-transaction
returns-then-self-transaction c =
    sym (told_sole c.self.inside.holder c.self.inside.marks.items c.args.self.now c.self.view_is c.args.transaction.0 (mark_of c.args.mark.now) ∙ no_count c.self.inside.holder c.args.transaction.0 c.self.inside.marks.items (mark_of c.args.mark.now) (λ same. c.if-self-transaction.true (sym same)))

pub returns-in-Some : goal.returns-in-Some
returns-in-Some c =
    let k = goal.at.returns-in-Some c in
    let low = within k.In-Some in
    times_there c.self.inside.marks.items c.in-Some.index (mark_of c.args.mark.now) (stands k.In-Some) c.index.result.now (slice_get_read c.self.inside.marks.items (length c.self.inside.marks.items) c.in-Some.index c.index.result.now refl low c.index.ensures)
    ∙ sym (own k.In-Some)

pub returns-in-None : goal.returns-in-None
returns-in-None c =
    sym (told_sole c.self.inside.holder c.self.inside.marks.items c.args.self.now c.self.view_is c.args.transaction.0 (mark_of c.args.mark.now)
    ∙ own_count c.self.inside.holder c.args.transaction.0 c.self.inside.marks.items (mark_of c.args.mark.now) c.if-self-transaction.false
    ∙ ap (sole_times (mark_of c.args.mark.now)) (sym c.deref.ensures.value) ∙ c.in-None.ensures.none)
