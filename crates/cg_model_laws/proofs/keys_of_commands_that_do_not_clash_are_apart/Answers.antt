use Rattle.cg_model_laws.proofs.AcceptedCommands.{keys_of_both_apart}
use Rattle.cg_model_laws.proofs.keys_of_commands_that_do_not_clash_are_apart.Goals as goal

pub returns : goal.returns
returns c = keys_of_both_apart
