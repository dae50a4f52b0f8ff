use Rattle.cg_model_laws.proofs.AcceptedCommands.{keys_apart}
use Rattle.cg_model_laws.proofs.keys_of_an_inverse_are_apart.Goals as goal

pub returns : goal.returns
returns c = keys_apart
