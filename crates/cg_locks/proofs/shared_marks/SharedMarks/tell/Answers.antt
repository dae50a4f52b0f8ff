use Rattle.cg_locks.proofs.OfKinds.{kinds}
use Rattle.cg_locks.proofs.Tables.{neat}
use Rattle.cg_locks.proofs.shared_marks.SharedMarks.tell.Goals as goal

pub returns : goal.returns
returns c = neat (kinds c.self.inside) c.args.self.now c.self.view_is
