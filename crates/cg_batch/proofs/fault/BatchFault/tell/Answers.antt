use Rattle.std.specs.Fmt.{digits}
use Rattle.cg_batch.proofs.fault.BatchFault.tell.Goals as goal

pub returns-in-Disagree-clause-line : goal.returns-in-Disagree-clause-line
unfolding digits
returns-in-Disagree-clause-line g c = rw c.in-Disagree.is c.tell_as.ensures.line
