use Rattle.std.proofs.Common.{refl}
use Rattle.std.specs.Fmt.{digits}
use Rattle.cg_program.proofs.replaying.line_of.Goals as goal

pub returns-in-Syntax : goal.returns-in-Syntax
unfolding digits
returns-in-Syntax c = rw c.in-Syntax.is refl

pub returns-in-Memory : goal.returns-in-Memory
unfolding digits
returns-in-Memory c = rw c.in-Memory.is refl

pub returns-in-ReadFault : goal.returns-in-ReadFault
unfolding digits
returns-in-ReadFault c = rw c.in-ReadFault.is refl

pub returns-in-WriteFault : goal.returns-in-WriteFault
unfolding digits
returns-in-WriteFault c = rw c.in-WriteFault.is refl
