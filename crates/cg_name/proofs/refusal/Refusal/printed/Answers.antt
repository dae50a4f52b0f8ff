use Rattle.std.proofs.Common.{sym, ap}
use Rattle.std.specs.Fmt.{digits}
use Rattle.cg_name.specs.Refusal.{printed_of}
use Rattle.cg_name.proofs.refusal.Refusal.printed.Goals as goal

pub returns-in-Syntax : goal.returns-in-Syntax
unfolding digits
returns-in-Syntax c = sym (ap printed_of c.in-Syntax.is)

pub returns-in-NoTransaction : goal.returns-in-NoTransaction
unfolding digits
returns-in-NoTransaction c = sym (ap printed_of c.in-NoTransaction.is)

pub returns-in-AlreadyOpen : goal.returns-in-AlreadyOpen
unfolding digits
returns-in-AlreadyOpen c = sym (ap printed_of c.in-AlreadyOpen.is)

pub returns-in-Full : goal.returns-in-Full
unfolding digits
returns-in-Full c = sym (ap printed_of c.in-Full.is)

pub returns-in-Busy : goal.returns-in-Busy
unfolding digits
returns-in-Busy c = sym (ap printed_of c.in-Busy.is)

pub returns-in-NoGroup : goal.returns-in-NoGroup
unfolding digits
returns-in-NoGroup c = sym (ap printed_of c.in-NoGroup.is)

pub returns-in-Exists : goal.returns-in-Exists
unfolding digits
returns-in-Exists c = sym (ap printed_of c.in-Exists.is)

pub returns-in-IsRoot : goal.returns-in-IsRoot
unfolding digits
returns-in-IsRoot c = sym (ap printed_of c.in-IsRoot.is)

pub returns-in-HasChildren : goal.returns-in-HasChildren
unfolding digits
returns-in-HasChildren c = sym (ap printed_of c.in-HasChildren.is)

pub returns-in-HasProcesses : goal.returns-in-HasProcesses
unfolding digits
returns-in-HasProcesses c = sym (ap printed_of c.in-HasProcesses.is)

pub returns-in-NoProcess : goal.returns-in-NoProcess
unfolding digits
returns-in-NoProcess c = sym (ap printed_of c.in-NoProcess.is)

pub returns-in-Controlled : goal.returns-in-Controlled
unfolding digits
returns-in-Controlled c = sym (ap printed_of c.in-Controlled.is)

pub returns-in-Unavailable : goal.returns-in-Unavailable
unfolding digits
returns-in-Unavailable c = sym (ap printed_of c.in-Unavailable.is)

pub returns-in-InUse : goal.returns-in-InUse
unfolding digits
returns-in-InUse c = sym (ap printed_of c.in-InUse.is)

pub returns-in-NoFile : goal.returns-in-NoFile
unfolding digits
returns-in-NoFile c = sym (ap printed_of c.in-NoFile.is)

pub returns-in-NoSavepoint : goal.returns-in-NoSavepoint
unfolding digits
returns-in-NoSavepoint c = sym (ap printed_of c.in-NoSavepoint.is)

pub returns-in-NameTaken : goal.returns-in-NameTaken
unfolding digits
returns-in-NameTaken c = sym (ap printed_of c.in-NameTaken.is)

pub returns-in-NothingToUndo : goal.returns-in-NothingToUndo
unfolding digits
returns-in-NothingToUndo c = sym (ap printed_of c.in-NothingToUndo.is)

pub returns-in-Memory : goal.returns-in-Memory
unfolding digits
returns-in-Memory c = sym (ap printed_of c.in-Memory.is)

pub returns-in-Lost : goal.returns-in-Lost
unfolding digits
returns-in-Lost c = sym (ap printed_of c.in-Lost.is)

pub returns-in-Disagree : goal.returns-in-Disagree
unfolding digits
returns-in-Disagree c = sym (ap printed_of c.in-Disagree.is)

pub returns-in-TooMany : goal.returns-in-TooMany
unfolding digits
returns-in-TooMany c = sym (ap printed_of c.in-TooMany.is)

pub returns-in-TooDeep : goal.returns-in-TooDeep
unfolding digits
returns-in-TooDeep c = sym (ap printed_of c.in-TooDeep.is)

pub returns-in-ReadFault : goal.returns-in-ReadFault
unfolding digits
returns-in-ReadFault c = sym (ap printed_of c.in-ReadFault.is)

pub returns-in-WriteFault : goal.returns-in-WriteFault
unfolding digits
returns-in-WriteFault c = sym (ap printed_of c.in-WriteFault.is)
