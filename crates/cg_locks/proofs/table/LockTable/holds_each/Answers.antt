use Rattle.std.proofs.Common.{map, refl}
use Rattle.cg_locks.specs.Meaning.{mark_of}
use Rattle.cg_locks.proofs.Enough.{all_enough, next_is_enough}
use Rattle.cg_locks.proofs.table.LockTable.holds_each.Goals as goal

pub loop-mark-init : goal.loop-mark-init
loop-mark-init c = λ all. all

pub loop-mark-preserved : goal.loop-mark-preserved
loop-mark-preserved c =
    next_is_enough c.args.self.now c.args.transaction.0 (map mark_of c.args.marks.now) c.args.marks.now c.loop-mark.mark-index c.mark-item.result c.loop-mark-test.true c.mark-item.is
    (c.holds_mark.ensures.0 c.if-not-holds_mark.false) c.loop-mark.invariant

pub returns : goal.returns
returns c =
    (λ _. all_enough c.args.self.now c.args.transaction.0 (map mark_of c.args.marks.now) c.args.marks.now c.loop-mark.mark-index refl c.loop-mark-test.false c.loop-mark.invariant, λ _. refl)
