-- A mark more each turn, until one clashes.
use Rattle.std.proofs.Common.{length, refl, sym, ◌∙◌, arith}
use Rattle.std.proofs.lemmas.Option.{slice_get_read}
use Rattle.cg_locks.specs.Meaning.{mark_of}
use Rattle.cg_locks.proofs.Soles.{all_free, held_there, next_free}
use Rattle.cg_locks.proofs.sole_marks.is_any_clashing.Goals as goal
use Rattle.cg_locks.proofs.sole_marks.is_any_clashing.Goals.{else-own-gt0-via-then-own-gt0+else-clashes, else-own-gt0-via-else-own-gt0}

pub loop-own-init : goal.loop-own-init
loop-own-init c = λ j e low. absurd (omega (arith, low))

pub returns-then-clashes-clause-some : goal.returns-then-clashes-clause-some
returns-then-clashes-clause-some c = λ _. (
  mark_of c.own-item.result.mark,
  held_there c.args.marks.now c.loop-own.own-index c.own-item.result (slice_get_read c.args.marks.now (length c.args.marks.now) c.loop-own.own-index c.own-item.result refl c.loop-own-test.true c.own-item.is) c.if-own-gt0.true,
  sym c.clashes.ensures ∙ c.if-clashes.true,
)

pub loop-own-preserved : goal.loop-own-preserved
loop-own-preserved c =
    next_free c.args.marks.now (mark_of c.args.mark.now) c.loop-own.own-index c.own-item.result
    (slice_get_read c.args.marks.now (length c.args.marks.now) c.loop-own.own-index c.own-item.result refl c.loop-own-test.true c.own-item.is) c.loop-own.invariant (λ held. elim c.else-own-gt0.branch [
      | else-own-gt0-via-then-own-gt0+else-clashes w ↦ sym w.clashes.ensures ∙ w.if-clashes.false
      | else-own-gt0-via-else-own-gt0 w ↦ absurd (omega (arith, held, w.if-own-gt0.false))
    ])

pub returns-clause-none : goal.returns-clause-none
returns-clause-none c = λ _. all_free c.args.marks.now (mark_of c.args.mark.now) c.loop-own.own-index c.loop-own-test.false c.loop-own.invariant
