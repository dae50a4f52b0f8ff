use Rattle.cg_script.proofs.Scripts.{one_script}
use Rattle.cg_script.proofs.script_reader.a_text_spells_one_script_at_most.Goals as goal

pub returns : goal.returns
returns c = one_script
