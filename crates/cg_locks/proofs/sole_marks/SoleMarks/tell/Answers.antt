use Rattle.cg_locks.proofs.Soles.{sole_neat}
use Rattle.cg_locks.proofs.sole_marks.SoleMarks.tell.Goals as goal

pub returns : goal.returns
returns c = sole_neat c.self.inside.holder c.self.inside.marks.items c.args.self.now c.self.view_is
