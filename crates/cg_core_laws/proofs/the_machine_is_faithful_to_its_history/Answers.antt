use Rattle.cg_model.specs.Cgroups.{cgroups}
use Rattle.cg_core_laws.proofs.ControlGroups.LawsOfGroups.{laws}
use Rattle.cg_core_laws.proofs.Interleaving.Theorem.{faithful}
use Rattle.cg_core_laws.proofs.the_machine_is_faithful_to_its_history.Goals as goal

pub returns : goal.returns
returns c opening bound requests sound proper = faithful cgroups laws opening sound bound requests proper
