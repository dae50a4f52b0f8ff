use Rattle.std.proofs.Common.{◌≡◌, ◌<◌, length, refl, sym, ap, subst, subst₂, ◌∙◌, arith}
use Rattle.std.proofs.lemmas.Bool.{false≢true}
use Rattle.std.proofs.lemmas.Bool.Decides.{nat_tests}
use Rattle.std.proofs.lemmas.Option.{slice_get_read, slice_get_within}
use Rattle.cg_model.specs.Footprint.{X}
use Rattle.cg_locks.specs.Holdings.{holdings}
use Rattle.cg_locks.specs.Sole.{sole_times, AreFound, StandsAt}
use Rattle.cg_locks.proofs.Soles.{no_count, own_count, times_there, told_sole}
use Rattle.cg_locks.proofs.sole_marks.SoleMarks.holds_changed.Goals as goal
use Rattle.cg_locks.proofs.sole_marks.SoleMarks.holds_changed.Goals.{In-Some}

pub find_changed-requires : goal.find_changed-requires
find_changed-requires c = subst₂ AreFound (sym c.deref.ensures.value) (sym c.deref-2.ensures.value) c.self.invariant

stands : (c : In-Some) → StandsAt c.self.inside.marks.items c.in-Some.index (X c.args.path.now)
stands c = subst (λ es. StandsAt es c.in-Some.index (X c.args.path.now)) c.deref.ensures.value c.in-Some.ensures.there

within : (c : In-Some) → c.in-Some.index < length c.self.inside.marks.items
within c = slice_get_within c.self.inside.marks.items c.in-Some.index (stands c).there (stands c).found

-- the holder holds it so often
own : (c : In-Some) → holdings c.args.self.now c.args.transaction.0 (X c.args.path.now) ≡ sole_times (X c.args.path.now) c.self.inside.marks.items
own c =
    told_sole c.self.inside.holder c.self.inside.marks.items c.args.self.now c.self.view_is c.args.transaction.0 (X c.args.path.now)
    ∙ own_count c.self.inside.holder c.args.transaction.0 c.self.inside.marks.items (X c.args.path.now) c.if-self-transaction.false

pub index-requires : goal.index-requires
index-requires c = let low = within c in let len = c.self.inside.marks.ok.0 in omega (arith, low, len)

pub returns-then-self-transaction : goal.returns-then-self-transaction
returns-then-self-transaction c =
    let none : holdings c.args.self.now c.args.transaction.0 (X c.args.path.now) ≡ 0 =
    told_sole c.self.inside.holder c.self.inside.marks.items c.args.self.now c.self.view_is c.args.transaction.0 (X c.args.path.now) ∙ no_count c.self.inside.holder c.args.transaction.0 c.self.inside.marks.items (X c.args.path.now) (λ same. c.if-self-transaction.true (sym same)) in (
      λ yes. absurd (false≢true yes),
      λ low. absurd (omega (arith, none, low)),
    )

pub returns-in-Some : goal.returns-in-Some
returns-in-Some c =
    let k = goal.at.returns-in-Some c in
    let low = within k.In-Some in
    let times : c.index.result.now.times ≡ holdings c.args.self.now c.args.transaction.0 (X c.args.path.now) =
    times_there c.self.inside.marks.items c.in-Some.index (X c.args.path.now) (stands k.In-Some) c.index.result.now (slice_get_read c.self.inside.marks.items (length c.self.inside.marks.items) c.in-Some.index c.index.result.now refl low c.index.ensures)
    ∙ sym (own k.In-Some) in (
      λ yes. let some : 0 < c.index.result.now.times = grind (arith, nat_tests, yes) in omega (arith, times, some),
      λ held. let some : 0 < c.index.result.now.times = omega (arith, times, held) in grind (arith, nat_tests, some),
    )

pub returns-in-None : goal.returns-in-None
returns-in-None c =
    let none : holdings c.args.self.now c.args.transaction.0 (X c.args.path.now) ≡ 0 =
    told_sole c.self.inside.holder c.self.inside.marks.items c.args.self.now c.self.view_is c.args.transaction.0 (X c.args.path.now)
    ∙ own_count c.self.inside.holder c.args.transaction.0 c.self.inside.marks.items (X c.args.path.now) c.if-self-transaction.false
    ∙ ap (sole_times (X c.args.path.now)) (sym c.deref.ensures.value) ∙ c.in-None.ensures.none in (
      λ yes. absurd (false≢true yes),
      λ low. absurd (omega (arith, none, low)),
    )
