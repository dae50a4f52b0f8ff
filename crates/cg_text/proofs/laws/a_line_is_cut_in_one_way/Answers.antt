use Rattle.cg_text.proofs.Cuts.{one_cut}
use Rattle.cg_text.proofs.laws.a_line_is_cut_in_one_way.Goals as goal

pub returns : goal.returns
returns c = one_cut
