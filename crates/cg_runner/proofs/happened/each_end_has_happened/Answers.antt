use Rattle.cg_runner.proofs.Happening.{each_has_happened}
use Rattle.cg_runner.proofs.happened.each_end_has_happened.Goals as goal

pub returns : goal.returns
returns c = each_has_happened
