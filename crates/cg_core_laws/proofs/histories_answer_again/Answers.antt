use Rattle.cg_core_laws.proofs.ControlGroups.AnsweringAgain.{histories_answer_again}
use Rattle.cg_core_laws.proofs.histories_answer_again.Goals as goal

pub returns : goal.returns
returns c = histories_answer_again
