use Rattle.cg_locks.proofs.Soles.{no_count_told}
use Rattle.cg_locks.proofs.sole_marks.SoleMarks.tell_counts.Goals as goal

pub returns : goal.returns
returns c = no_count_told c.self.inside.holder c.self.inside.marks.items c.args.self.now c.self.view_is
