use Rattle.cg_model.specs.Cgroups.{cgroups}
use Rattle.cg_core_laws.proofs.ControlGroups.LawsOfGroups.{laws}
use Rattle.cg_core_laws.proofs.Interleaving.Theorem.{serial}
use Rattle.cg_core_laws.proofs.transactions_are_serial.Goals as goal

pub returns : goal.returns
returns c opening bound requests sound proper = serial cgroups laws opening sound bound requests proper
