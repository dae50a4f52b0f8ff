use Rattle.std.proofs.Common.{option_map}
use Rattle.cg_locks.specs.Holders.{number_of}
use Rattle.cg_locks.specs.Meaning.{mark_of}
use Rattle.cg_locks.proofs.Boths.{least_by_both}
use Rattle.cg_locks.proofs.table.LockTable.clash_with.Goals as goal

pub returns : goal.returns
returns c =
    least_by_both c.self.inside.sole c.self.inside.shared c.args.self.now c.self.view_is c.args.transaction.0 (mark_of c.args.mark.now)
    (option_map number_of c.least_clashing.result) (option_map number_of c.least_clashing-2.result) c.lesser.result c.lesser.ensures c.least_clashing.ensures c.least_clashing-2.ensures
