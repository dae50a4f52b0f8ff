-- A core that requests lead to over a sound tree, as every core of the code is.
use Rattle.cg_model.specs.Sound.{Sound}
use Rattle.cg_core.specs.State.{CoreState}
use Rattle.cg_core_laws.specs.MachineOf.{Reached}

pub record IsReached (c : CoreState) : Type 0 where
  pub sound : Sound c.opening
  pub reached : Reached c.opening c.bound c.history
