use Rattle.cg_model.specs.Cgroups.{cgroups}
use Rattle.cg_core_laws.proofs.ControlGroups.LawsOfGroups.{laws}
use Rattle.cg_core_laws.proofs.Interleaving.Theorem.{commits_kept}
use Rattle.cg_core_laws.proofs.commits_stay.Goals as goal

pub returns : goal.returns
returns c opening bound requests sound proper = commits_kept cgroups laws opening sound bound requests proper
