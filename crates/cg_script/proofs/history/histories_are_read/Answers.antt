use Rattle.cg_script.proofs.HistoryTurns.{histories_are_read}
use Rattle.cg_script.proofs.history.histories_are_read.Goals as goal

pub returns : goal.returns
returns c = histories_are_read
