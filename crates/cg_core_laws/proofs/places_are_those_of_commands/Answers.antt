use Rattle.cg_model.specs.Cgroups.{cgroups}
use Rattle.cg_core_laws.proofs.Interleaving.CommittedPlaces.{are_places, places_stay, script_stays}
use Rattle.cg_core_laws.proofs.places_are_those_of_commands.Goals as goal

pub returns : goal.returns
returns c = record { places = are_places cgroups; stay = λ newer h k le. (script_stays cgroups newer h k le, places_stay cgroups newer h k le) }
