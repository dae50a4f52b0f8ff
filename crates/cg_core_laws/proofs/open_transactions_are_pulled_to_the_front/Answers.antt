use Rattle.cg_model.specs.Cgroups.{cgroups}
use Rattle.cg_core_laws.specs.Reordered.{PulledToTheFront}
use Rattle.cg_core_laws.proofs.ControlGroups.LawsOfGroups.{laws}
use Rattle.cg_core_laws.proofs.Interleaving.Theorem.{by_log}
use Rattle.cg_core_laws.proofs.Interleaving.PullingToTheFront.{pulled_to_the_front}
use Rattle.cg_core_laws.proofs.open_transactions_are_pulled_to_the_front.Goals as goal

pub returns : goal.returns
returns c opening bound requests sound proper =
    by_log cgroups laws opening sound bound requests proper (PulledToTheFront cgroups opening) (λ c i. pulled_to_the_front cgroups laws opening c i.kept i.tied)
