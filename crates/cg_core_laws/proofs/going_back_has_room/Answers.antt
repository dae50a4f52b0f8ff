use Rattle.cg_model.specs.Cgroups.{cgroups}
use Rattle.cg_core_laws.proofs.ControlGroups.LawsOfGroups.{laws}
use Rattle.cg_core_laws.proofs.Interleaving.Theorem.{serial}
use Rattle.cg_core_laws.proofs.ControlGroups.RoomForGoingBack.{room_kept}
use Rattle.cg_core_laws.proofs.going_back_has_room.Goals as goal

pub returns : goal.returns
returns c opening bound requests sound proper = room_kept opening _ (serial cgroups laws opening sound bound requests proper)
