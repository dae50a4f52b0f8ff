use Rattle.cg_txn.proofs.StepsBack.{last_step}
use Rattle.cg_txn.proofs.laws.the_last_step_back_reaches_below.Goals as goal

pub returns : goal.returns
returns c = last_step
