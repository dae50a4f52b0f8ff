use Rattle.std.proofs.Common.{◌+◌, sym, subst}
use Rattle.cg_locks.specs.Holders.{held_by, IsLeastOther}
use Rattle.cg_locks.proofs.Counts.{least_of_sum}
use Rattle.cg_locks.proofs.held.Held.least_fixed.Goals as goal

pub returns : goal.returns
returns c =
    let t = c.args.transaction.0 in
    let h = c.args.self.now in
    subst (IsLeastOther t (λ u. held_by h.changed_below u + held_by h.stays_below u)) (sym c.lesser.ensures) (least_of_sum t (held_by h.changed_below) (held_by h.stays_below) _ _ c.least_other.ensures c.least_other-2.ensures)
