use Rattle.cg_text.proofs.Cuts.{one_saying}
use Rattle.cg_text.proofs.laws.a_line_says_one_thing_at_most.Goals as goal

pub returns : goal.returns
returns c = one_saying
