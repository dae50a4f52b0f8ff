use Rattle.cg_maps.proofs.Maps.{same_map}
use Rattle.cg_maps.proofs.maps_are_equal_where_they_answer_alike.Goals as goal

pub returns : goal.returns
returns g c = same_map g.met.K.Ord.total
