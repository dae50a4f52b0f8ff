-- Those that are no marks on numbers of descendants, and these.
use Rattle.std.proofs.Common.{map}
use Rattle.cg_locks.specs.Meaning.{counts_of, mark_of}
use Rattle.cg_locks.proofs.CountedMarks.{both_held, counts_held}
use Rattle.cg_locks.proofs.table.LockTable.holds.Goals as goal

pub returns-then-holds_each : goal.returns-then-holds_each
returns-then-holds_each c =
    let H = c.args.self.now in
    let ms = c.parts.result.0.now in (
      λ yes. both_held H c.args.transaction.0 ms c.parts.result.1 c.args.footprint.now c.parts.ensures.marks (c.holds_each.ensures.0 c.if-holds_each.true) (c.holds_counted.ensures.0 yes),
      λ all. c.holds_counted.ensures.1 (counts_held H c.args.transaction.0 (map mark_of ms) (counts_of c.parts.result.1) c.args.footprint.now c.parts.ensures.marks all),
    )
