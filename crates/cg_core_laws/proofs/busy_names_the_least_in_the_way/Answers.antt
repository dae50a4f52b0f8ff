use Rattle.cg_model.specs.Cgroups.{cgroups}
use Rattle.cg_model.specs.Machine.{opened, steps}
use Rattle.cg_core_laws.proofs.ControlGroups.BusyExactly.{busy_exactly}
use Rattle.cg_core_laws.proofs.ControlGroups.LawsOfGroups.{laws}
use Rattle.cg_core_laws.proofs.Interleaving.Theorem.{serial, faithful}
use Rattle.cg_core_laws.proofs.busy_names_the_least_in_the_way.Goals as goal

pub returns : goal.returns
returns c opening bound requests sound proper s t is_open room command u =
    busy_exactly opening (steps cgroups (opened cgroups opening bound) requests)
    (serial cgroups laws opening sound bound requests proper) (faithful cgroups laws opening sound bound requests proper) s t is_open room command u
