use Rattle.cg_plan.proofs.ShellTexts.{texts_are_read}
use Rattle.cg_plan.proofs.laws.texts_are_read.Goals as goal

pub returns : goal.returns
returns c = texts_are_read
