use Rattle.cg_text.proofs.Limits.{limit_is_its_number}
use Rattle.cg_text.proofs.laws.a_limit_is_its_number.Goals as goal

pub returns : goal.returns
returns c = limit_is_its_number
