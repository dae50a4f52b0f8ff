-- Where there are no slots there are no marks.
use Rattle.std.proofs.Common.{sym, subst}
use Rattle.cg_locks.specs.Sole.{AreFound}
use Rattle.cg_locks.proofs.Soles.{no_items, no_slots}
use Rattle.cg_locks.proofs.sole_marks.make_slots.Goals as goal

pub returns-in_err-resize : goal.returns-in_err-resize
returns-in_err-resize c = λ marks found. subst (AreFound marks) (sym c.in_err-resize.ensures.items) found

pub returns-in_ok-resize : goal.returns-in_ok-resize
returns-in_ok-resize c = λ marks found.
    no_slots marks c.args.slots.now.items c.resize.new.self.items (no_items c.args.slots.now.items _ c.is_empty.result c.args.slots.now.ok.0 c.is_empty.ensures c.if-is_empty.true) found
