use Rattle.cg_script.proofs.OneLine.{line_one}
use Rattle.cg_script.proofs.request.a_line_says_one_thing_at_most.Goals as goal

pub returns : goal.returns
returns c = line_one
