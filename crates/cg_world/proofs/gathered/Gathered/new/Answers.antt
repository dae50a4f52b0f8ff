use Rattle.cg_world.proofs.Runs.{sorted_none}
use Rattle.cg_world.proofs.gathered.Gathered.new.Goals as goal

pub invariant_of-result : goal.invariant_of-result
invariant_of-result g c = sorted_none g.K.Ord.cmp _ c.new.ensures.items
