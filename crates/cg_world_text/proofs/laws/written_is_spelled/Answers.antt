use Rattle.cg_world_text.proofs.RoundTrip.{written_spelled}
use Rattle.cg_world_text.proofs.laws.written_is_spelled.Goals as goal

pub returns : goal.returns
returns c = written_spelled
