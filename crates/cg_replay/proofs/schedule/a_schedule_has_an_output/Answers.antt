use Rattle.cg_replay.proofs.OneOutput.{some_output}
use Rattle.cg_replay.proofs.schedule.a_schedule_has_an_output.Goals as goal

pub returns : goal.returns
returns c = some_output
