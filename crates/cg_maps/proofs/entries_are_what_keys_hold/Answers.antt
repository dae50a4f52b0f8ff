use Rattle.cg_maps.proofs.Maps.{entries_held}
use Rattle.cg_maps.proofs.entries_are_what_keys_hold.Goals as goal

pub returns : goal.returns
returns g c same m = entries_held g.met.K.Ord.total same m
