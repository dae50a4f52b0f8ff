use Rattle.std.specs.Fmt.{digits}
use Rattle.cg_program.proofs.fault.ShowFault.tell.Goals as goal

pub returns-in-NoGroup-clause-line : goal.returns-in-NoGroup-clause-line
unfolding digits
returns-in-NoGroup-clause-line g c = rw c.in-NoGroup.is c.tell_as.ensures.line

pub returns-in-NoFile-clause-line : goal.returns-in-NoFile-clause-line
unfolding digits
returns-in-NoFile-clause-line g c = rw c.in-NoFile.is c.tell_as-in-NoFile.ensures.line
