use Rattle.cg_text.proofs.Canonical.{ops_are_spelled}
use Rattle.cg_text.proofs.laws.the_text_of_operations_spells_them.Goals as goal

pub returns : goal.returns
returns c = ops_are_spelled
