-- A mark less each turn, all in the end.
use Rattle.std.proofs.Common.{map, refl, sym}
use Rattle.cg_locks.specs.Meaning.{mark_of}
use Rattle.cg_locks.proofs.Enough.{all_taken, next_is_held, next_released, none_yet}
use Rattle.cg_locks.proofs.table.LockTable.release_all.Goals as goal

pub loop-mark-init : goal.loop-mark-init
loop-mark-init c = none_yet c.args.self.now c.args.transaction.0 c.args.marks.now

pub release_mark-requires : goal.release_mark-requires
release_mark-requires c = next_is_held c.args.self.now c.loop-mark.self c.args.transaction.0 c.args.marks.now c.loop-mark.mark-index c.mark-item.result c.loop-mark-test.true c.mark-item.is c.requires c.loop-mark.invariant

pub loop-mark-preserved : goal.loop-mark-preserved
loop-mark-preserved c =
    next_released c.args.self.now c.loop-mark.self c.release_mark.new.self c.args.transaction.0 c.args.marks.now c.loop-mark.mark-index c.mark-item.result c.loop-mark-test.true c.mark-item.is c.loop-mark.invariant c.release_mark.ensures

pub returns : goal.returns
returns c = λ u m. sym (all_taken c.loop-mark.self c.args.self.now c.args.transaction.0 c.args.marks.now (map mark_of c.args.marks.now) c.loop-mark.mark-index refl c.loop-mark-test.false c.loop-mark.invariant u m)
