use Rattle.cg_model.specs.Cgroups.{cgroups}
use Rattle.cg_core_laws.proofs.ControlGroups.LawsOfGroups.{laws}
use Rattle.cg_core_laws.proofs.Interleaving.Theorem.{others_untouched}
use Rattle.cg_core_laws.proofs.other_transactions_stay.Goals as goal

pub returns : goal.returns
returns c opening bound requests sound proper = others_untouched cgroups laws opening sound bound requests proper
