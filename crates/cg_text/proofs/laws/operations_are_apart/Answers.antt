use Rattle.cg_text.proofs.laws.operations_are_apart.Goals as goal

pub returns : goal.returns
returns c = λ ops. ops.apart
