-- What holds of the changes of a command where it is accepted.
use Rattle.std.proofs.Common.{List}
use Rattle.cg_model.specs.Change.{Change}
use Rattle.cg_model.specs.System.{Refuse, Accept}
use Rattle.cg_model.specs.Command.{Effect}

abbrev pub IfAccepted : Effect → (List Change → Type 0) → Type 0
IfAccepted (Refuse r) P = Unit {0}
IfAccepted (Accept o cs) P = P cs
