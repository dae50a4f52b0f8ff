use Rattle.cg_maps.proofs.Maps.{get-retain}
use Rattle.cg_maps.proofs.keys_that_pass_are_retained.Goals as goal

pub returns : goal.returns
returns g c = get-retain g.met.K.Ord.total
