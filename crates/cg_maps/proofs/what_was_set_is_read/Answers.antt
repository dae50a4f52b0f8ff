use Rattle.cg_maps.proofs.Maps.{get_here, get_apart}
use Rattle.cg_maps.proofs.what_was_set_is_read.Goals as goal

pub returns : goal.returns
returns g c same m k l v = (get_here g.met.K.Ord.total same m k v, get_apart g.met.K.Ord.total same m k v l)
