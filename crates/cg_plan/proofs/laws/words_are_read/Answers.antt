use Rattle.cg_plan.proofs.ShellReading.{words_are_read}
use Rattle.cg_plan.proofs.laws.words_are_read.Goals as goal

pub returns : goal.returns
returns c = words_are_read
