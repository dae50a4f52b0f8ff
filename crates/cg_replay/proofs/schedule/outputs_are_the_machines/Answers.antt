use Rattle.cg_replay.proofs.MachineOutputs.{outputs_are_the_machines}
use Rattle.cg_replay.proofs.schedule.outputs_are_the_machines.Goals as goal

pub returns : goal.returns
returns c = outputs_are_the_machines
