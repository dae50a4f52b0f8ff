-- A mark more each turn, all in the end.
use Rattle.std.proofs.Common.{◌+◌, map, option_map, refl, sym, subst}
use Rattle.cg_locks.specs.Holders.{number_of}
use Rattle.cg_locks.specs.Meaning.{mark_of}
use Rattle.cg_locks.proofs.Ways.{all_so_far, next_so_far, IsLeastSoFar}
use Rattle.cg_locks.proofs.table.LockTable.clash_with_all.Goals as goal

pub loop-mark-preserved : goal.loop-mark-preserved
loop-mark-preserved c =
    subst (IsLeastSoFar c.args.self.now c.args.transaction.0 c.args.marks.now (c.loop-mark.mark-index + 1)) (sym c.lesser-least.ensures)
    (next_so_far c.args.self.now c.args.transaction.0 c.args.marks.now c.loop-mark.mark-index c.mark-item.result _ _ c.loop-mark-test.true c.mark-item.is c.loop-mark.invariant c.clash_with.ensures)

pub returns : goal.returns
returns c =
    all_so_far c.args.self.now c.args.transaction.0 c.args.marks.now (map mark_of c.args.marks.now) c.loop-mark.mark-index (option_map number_of c.loop-mark.least) refl c.loop-mark-test.false c.loop-mark.invariant
