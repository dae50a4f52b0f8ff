use Rattle.std.proofs.Common.{◌+◌, sym, ◌∙◌}
use Rattle.cg_locks.specs.Meaning.{mark_of}
use Rattle.cg_locks.proofs.Boths.{sum_of}
use Rattle.cg_locks.proofs.table.LockTable.count.Goals as goal

pub returns : goal.returns
returns c =
    (λ i. c.count.ensures i + c.count-2.ensures i)
    ∙ sym (sum_of c.self.inside.sole c.self.inside.shared c.args.self.now c.self.view_is c.args.transaction.0 (mark_of c.args.mark.now))
