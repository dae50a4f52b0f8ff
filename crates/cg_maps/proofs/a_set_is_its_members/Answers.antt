use Rattle.cg_maps.proofs.Sets.{same_set, set_of-members}
use Rattle.cg_maps.proofs.a_set_is_its_members.Goals as goal

pub returns : goal.returns
returns c = (same_set, set_of-members)
