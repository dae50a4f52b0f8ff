use Rattle.cg_locks.proofs.Tables.{same_neat}
use Rattle.cg_locks.proofs.table.LockTable.share_all.Goals as goal

pub returns : goal.returns
returns c = same_neat c.share_each-shared.new.self c.args.self.now c.tell-2.ensures c.tell.ensures c.share_each-shared.ensures
