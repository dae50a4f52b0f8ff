use Rattle.cg_locks.proofs.Boths.{both_neat}
use Rattle.cg_locks.proofs.table.LockTable.tell.Goals as goal

pub returns : goal.returns
returns c = both_neat c.self.inside.sole c.self.inside.shared c.args.self.now c.self.view_is
