-- Those on numbers of descendants never stand apart.
use Rattle.std.proofs.Common.{option_map}
use Rattle.cg_locks.specs.Holders.{number_of}
use Rattle.cg_locks.proofs.Boths.{least_by_second}
use Rattle.cg_locks.proofs.table.LockTable.clash_with_counted.Goals as goal

pub returns : goal.returns
returns c =
    least_by_second c.self.inside.sole c.self.inside.shared c.args.self.now c.self.view_is c.tell_counts.ensures c.args.transaction.0 c.args.counted
    (option_map number_of c.least_counted.result) c.least_counted.ensures
