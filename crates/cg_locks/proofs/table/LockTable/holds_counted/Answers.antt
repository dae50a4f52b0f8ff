-- Those on numbers of descendants never stand apart.
use Rattle.cg_locks.specs.Meaning.{counts_of}
use Rattle.cg_locks.proofs.Boths.{held_by_both, held_by_second}
use Rattle.cg_locks.proofs.table.LockTable.holds_counted.Goals as goal

pub returns : goal.returns
returns c =
    let G = c.self.inside.sole in
    let H = c.self.inside.shared in
    let t = c.args.transaction.0 in (
      λ yes. held_by_both G H c.args.self.now c.self.view_is t (counts_of c.args.counted) (c.holds_counted.ensures.0 yes),
      λ all. c.holds_counted.ensures.1 (held_by_second G H c.args.self.now c.self.view_is c.tell_counts.ensures t c.args.counted all),
    )
