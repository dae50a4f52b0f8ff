use Rattle.cg_text.proofs.Masks.{unusual_of_lanes}
use Rattle.cg_text.proofs.word_ends.unusual_in.Goals as goal

pub returns : goal.returns
returns g c = unusual_of_lanes c.args.bytes g.row.N c.requires.whole c.requires.many
