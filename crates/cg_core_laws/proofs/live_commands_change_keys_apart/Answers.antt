use Rattle.cg_model.specs.Cgroups.{cgroups}
use Rattle.cg_core_laws.specs.Laws.{LiveKeysApart}
use Rattle.cg_core_laws.proofs.ControlGroups.LawsOfGroups.{laws}
use Rattle.cg_core_laws.proofs.Interleaving.Theorem.{by_log}
use Rattle.cg_core_laws.proofs.ControlGroups.LiveKeysApart.{keys_of_others_apart}
use Rattle.cg_core_laws.proofs.live_commands_change_keys_apart.Goals as goal

pub returns : goal.returns
returns c opening bound requests sound proper =
    by_log cgroups laws opening sound bound requests proper (LiveKeysApart opening) (λ c i. keys_of_others_apart opening laws c i.kept i.tied)
