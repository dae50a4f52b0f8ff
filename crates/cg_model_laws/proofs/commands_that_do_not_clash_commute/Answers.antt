use Rattle.cg_model_laws.proofs.Swapping.{swap}
use Rattle.cg_model_laws.proofs.commands_that_do_not_clash_commute.Goals as goal

pub returns : goal.returns
returns c = swap
