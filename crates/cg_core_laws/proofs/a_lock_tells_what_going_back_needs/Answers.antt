use Rattle.cg_model.specs.Cgroups.{cgroups}
use Rattle.cg_core_laws.specs.Laws.{LiveKeysApart}
use Rattle.cg_core_laws.proofs.ControlGroups.LawsOfGroups.{laws}
use Rattle.cg_core_laws.proofs.Interleaving.Theorem.{by_log, serial}
use Rattle.cg_core_laws.proofs.ControlGroups.LiveKeysApart.{keys_of_others_apart}
use Rattle.cg_core_laws.proofs.ControlGroups.LettingGo.{newest_lets_go, oldest_lets_go}
use Rattle.cg_core_laws.proofs.a_lock_tells_what_going_back_needs.Goals as goal

pub returns : goal.returns
returns c = record {
  newest = λ opening bound requests sound proper.
      newest_lets_go opening _ (serial cgroups laws opening sound bound requests proper)
      (by_log cgroups laws opening sound bound requests proper (LiveKeysApart opening) (λ c i. keys_of_others_apart opening laws c i.kept i.tied));
  oldest = λ opening bound requests sound proper.
      oldest_lets_go opening _ (serial cgroups laws opening sound bound requests proper)
      (by_log cgroups laws opening sound bound requests proper (LiveKeysApart opening) (λ c i. keys_of_others_apart opening laws c i.kept i.tied));
}
