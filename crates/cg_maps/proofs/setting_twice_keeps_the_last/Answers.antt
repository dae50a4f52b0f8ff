use Rattle.cg_maps.proofs.Maps.{set_set}
use Rattle.cg_maps.proofs.setting_twice_keeps_the_last.Goals as goal

pub returns : goal.returns
returns g c = set_set g.met.K.Ord.total
