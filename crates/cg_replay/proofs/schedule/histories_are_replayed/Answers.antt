use Rattle.cg_replay.proofs.HistoryReplays.{histories_are_replayed}
use Rattle.cg_replay.proofs.schedule.histories_are_replayed.Goals as goal

pub returns : goal.returns
returns c = histories_are_replayed
