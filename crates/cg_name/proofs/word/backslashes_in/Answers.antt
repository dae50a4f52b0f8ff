use Rattle.cg_name.proofs.Backslashes.{backslashes_of_lanes}
use Rattle.cg_name.proofs.word.backslashes_in.Goals as goal

pub returns : goal.returns
returns g c = backslashes_of_lanes c.args.bytes g.row.N c.requires.whole c.requires.many
