-- The logs are compared record by record.
use Rattle.std.proofs.Common.{refl, arith}
use Rattle.std.proofs.lemmas.Bool.{false≢true}
use Rattle.cg_log.proofs.Comparing.{left_next, left_none, left_other, whole}
use Rattle.cg_log.proofs.comparison.all_are_in.Goals as goal

pub loop-entry-init : goal.loop-entry-init
loop-entry-init c = (c.requires.once, whole c.args.rests.now, omega arith)

pub loop-entry-preserved : goal.loop-entry-preserved
loop-entry-preserved c =
    let taken = c.if-not-take_call.ensures.taken in
    left_next c.args.records.now c.args.rests.now c.loop-entry.entry-index c.entry-item.result c.loop-entry.rests c.take_call.new.rests taken.0
    c.loop-entry-test.true c.entry-item.is c.loop-entry.invariant taken.1 taken.2

pub returns-then-not-take_call : goal.returns-then-not-take_call
returns-then-not-take_call c = (
  (λ e. absurd (false≢true e)),
  (λ a. absurd (left_other c.args.records.now c.args.rests.now c.loop-entry.entry-index c.entry-item.result c.loop-entry.rests
      c.loop-entry-test.true c.entry-item.is c.requires.as_many c.loop-entry.invariant c.if-not-take_call.ensures.other a)),
)

pub returns : goal.returns
returns c = (
  (λ _. left_none c.args.records.now c.args.rests.now c.loop-entry.entry-index c.loop-entry.rests c.loop-entry-test.false c.requires.as_many c.loop-entry.invariant),
  (λ _. refl),
)
