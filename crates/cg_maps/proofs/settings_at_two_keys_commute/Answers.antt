use Rattle.cg_maps.proofs.Maps.{set_swap}
use Rattle.cg_maps.proofs.settings_at_two_keys_commute.Goals as goal

pub returns : goal.returns
returns g c = set_swap g.met.K.Ord.total
