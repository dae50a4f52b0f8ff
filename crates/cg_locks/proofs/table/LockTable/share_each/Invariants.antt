-- Both together hold what they held, and fewer holdings stand apart each turn.
use Rattle.std.proofs.Common.{◌≡◌, ℕ, ◌+◌}
use Rattle.cg_model.specs.Footprint.{Mark}
use Rattle.cg_locks.specs.Holdings.{holdings}
use Rattle.cg_locks.proofs.Totals.{total}
use Rattle.cg_locks.proofs.table.LockTable.share_each.Given as goal

abbrev pub invariant-loop-holder : goal.invariant-loop-holder
invariant-loop-holder l = (u : ℕ) (m : Mark) → holdings l.self-inside.sole u m + holdings l.self-inside.shared u m ≡ holdings l.fn.self u m

abbrev pub decreases-loop-holder : goal.decreases-loop-holder
decreases-loop-holder l = total l.self-inside.sole
