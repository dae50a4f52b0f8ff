use Rattle.cg_model_laws.proofs.Marks.{clashes-swapped}
use Rattle.cg_model_laws.proofs.clashes_are_symmetric.Goals as goal

pub returns : goal.returns
returns c = clashes-swapped
