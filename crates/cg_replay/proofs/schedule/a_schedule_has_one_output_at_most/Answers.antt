use Rattle.cg_replay.proofs.OneOutput.{one_output}
use Rattle.cg_replay.proofs.schedule.a_schedule_has_one_output_at_most.Goals as goal

pub returns : goal.returns
returns c = one_output
