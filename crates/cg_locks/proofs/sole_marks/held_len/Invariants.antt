-- None of those behind is held.
use Rattle.std.proofs.Common.{◌≡◌, ◌≤◌, length, take}
use Rattle.cg_model.specs.Footprint.{Mark}
use Rattle.cg_locks.specs.Sole.{sole_times}
use Rattle.cg_locks.proofs.sole_marks.held_len.Given as goal

abbrev pub invariant-last : goal.invariant-last
invariant-last l = (l.len ≤ length l.marks) × ((m : Mark) → sole_times m (take l.len l.marks) ≡ sole_times m l.marks)

abbrev pub decreases-last : goal.decreases-last
decreases-last l = l.len
