use Rattle.cg_json.proofs.ReadBack.{texts_read_back}
use Rattle.cg_json.proofs.laws.texts_read_back.Goals as goal

pub returns : goal.returns
returns c = texts_read_back
