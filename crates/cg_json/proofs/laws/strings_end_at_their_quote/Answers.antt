use Rattle.cg_json.proofs.ReadBack.{strings_end_at_their_quote}
use Rattle.cg_json.proofs.laws.strings_end_at_their_quote.Goals as goal

pub returns : goal.returns
returns c = strings_end_at_their_quote
