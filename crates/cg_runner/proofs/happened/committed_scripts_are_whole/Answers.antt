use Rattle.cg_runner.proofs.Happening.{committed_are_whole}
use Rattle.cg_runner.proofs.happened.committed_scripts_are_whole.Goals as goal

pub returns : goal.returns
returns c = committed_are_whole
