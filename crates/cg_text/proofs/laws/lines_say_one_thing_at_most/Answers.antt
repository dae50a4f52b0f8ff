use Rattle.cg_text.proofs.Cuts.{one_text}
use Rattle.cg_text.proofs.laws.lines_say_one_thing_at_most.Goals as goal

pub returns : goal.returns
returns c = one_text
