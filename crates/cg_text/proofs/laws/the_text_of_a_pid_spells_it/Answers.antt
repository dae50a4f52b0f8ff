use Rattle.cg_text.proofs.Spelled.{pid_is_spelled}
use Rattle.cg_text.proofs.laws.the_text_of_a_pid_spells_it.Goals as goal

pub returns : goal.returns
returns c = pid_is_spelled
