-- What the fields of a core mean, and what holds of them.
use Rattle.cg_core.specs.declared.machine.Core.TheInside.{Inside}
use Rattle.cg_core.specs.Parts.{IsCoreOf}
use Rattle.cg_core.specs.State.{CoreState}

abbrev pub state_of : Inside → CoreState
state_of c = record { opening = c.opening; bound = c.limit; history = c.history.0 }

abbrev pub IsCore : Inside → Type 0
IsCore c = IsCoreOf c.opening c.limit c.history.0 c.history.1 c.tree c.locks c.open
