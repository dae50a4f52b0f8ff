use Rattle.cg_replay.proofs.OwnHistories as own
use Rattle.cg_replay.proofs.schedule.own_histories_are_replayed.Goals as goal

pub returns : goal.returns
returns c = own.own_histories_are_replayed
