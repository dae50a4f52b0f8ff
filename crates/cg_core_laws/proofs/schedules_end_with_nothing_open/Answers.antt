use Rattle.cg_model.specs.Cgroups.{cgroups}
use Rattle.cg_core_laws.proofs.ControlGroups.LawsOfGroups.{laws}
use Rattle.cg_core_laws.proofs.Interleaving.AbortsAtTheEnd.{answers_are_steps, ends_all}
use Rattle.cg_core_laws.proofs.schedules_end_with_nothing_open.Goals as goal

pub returns : goal.returns
returns c = record {
  steps = answers_are_steps cgroups;
  end = λ opening bound requests sound proper. ends_all cgroups laws opening sound bound requests proper;
}
