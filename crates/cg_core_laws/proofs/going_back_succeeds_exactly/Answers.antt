use Rattle.cg_model.specs.Cgroups.{cgroups}
use Rattle.cg_core_laws.proofs.ControlGroups.LawsOfGroups.{laws}
use Rattle.cg_core_laws.proofs.Interleaving.Theorem.{going_back}
use Rattle.cg_core_laws.proofs.going_back_succeeds_exactly.Goals as goal

pub returns : goal.returns
returns c opening bound requests sound proper = going_back cgroups laws opening sound bound requests proper
