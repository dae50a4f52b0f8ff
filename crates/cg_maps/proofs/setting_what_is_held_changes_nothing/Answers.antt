use Rattle.cg_maps.proofs.Maps.{set_same}
use Rattle.cg_maps.proofs.setting_what_is_held_changes_nothing.Goals as goal

pub returns : goal.returns
returns g c = set_same g.met.K.Ord.total
