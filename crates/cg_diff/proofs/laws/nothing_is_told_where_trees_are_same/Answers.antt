use Rattle.cg_diff.proofs.Nothing.{nothing_where_same}
use Rattle.cg_diff.proofs.laws.nothing_is_told_where_trees_are_same.Goals as goal

pub returns : goal.returns
returns c = nothing_where_same
