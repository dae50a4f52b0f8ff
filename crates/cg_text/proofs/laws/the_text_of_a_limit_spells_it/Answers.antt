use Rattle.cg_text.proofs.Spelled.{limit_is_spelled}
use Rattle.cg_text.proofs.laws.the_text_of_a_limit_spells_it.Goals as goal

pub returns : goal.returns
returns c = limit_is_spelled
