use Rattle.cg_core.proofs.BusyTold.{busy_told}
use Rattle.cg_core.proofs.in_the_way.busy_tells_a_command.Goals as goal

pub returns : goal.returns
returns c = busy_told
