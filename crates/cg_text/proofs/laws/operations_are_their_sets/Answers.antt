use Rattle.cg_text.proofs.Operations.{same_ops}
use Rattle.cg_text.proofs.laws.operations_are_their_sets.Goals as goal

pub returns : goal.returns
returns c = same_ops
