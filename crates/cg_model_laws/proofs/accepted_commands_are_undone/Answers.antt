use Rattle.cg_model_laws.proofs.AcceptedCommands.{identity}
use Rattle.cg_model_laws.proofs.accepted_commands_are_undone.Goals as goal

pub returns : goal.returns
returns c = identity
