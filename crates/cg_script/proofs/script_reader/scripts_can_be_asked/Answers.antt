use Rattle.cg_script.proofs.Scripts.{scripts_can_be_asked}
use Rattle.cg_script.proofs.script_reader.scripts_can_be_asked.Goals as goal

pub returns : goal.returns
returns c = scripts_can_be_asked
