use Rattle.cg_core_laws.proofs.ControlGroups.SteppingOn.{steps_by_history}
use Rattle.cg_core_laws.proofs.steps_go_on_by_the_history.Goals as goal

pub returns : goal.returns
returns c = steps_by_history
