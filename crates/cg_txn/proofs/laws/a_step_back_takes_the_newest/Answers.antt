use Rattle.cg_txn.proofs.StepsBack.{step_takes}
use Rattle.cg_txn.proofs.laws.a_step_back_takes_the_newest.Goals as goal

pub returns : goal.returns
returns c = step_takes
