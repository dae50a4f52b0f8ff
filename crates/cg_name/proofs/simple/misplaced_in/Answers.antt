use Rattle.cg_name.proofs.SimpleLanes.{misplaced_lanes}
use Rattle.cg_name.proofs.simple.misplaced_in.Goals as goal

pub returns : goal.returns
returns c = misplaced_lanes c.args.bytes c.args.before c.requires.whole c.requires.behind
