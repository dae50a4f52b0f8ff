use Rattle.cg_model.specs.Cgroups.{cgroups}
use Rattle.cg_core_laws.proofs.ControlGroups.LawsOfGroups.{laws}
use Rattle.cg_core_laws.proofs.ControlGroups.WholeMachine.{machine_is}
use Rattle.cg_core_laws.proofs.Interleaving.Theorem.{of_history, serial}
use Rattle.cg_core_laws.proofs.Interleaving.MachineOfHistory.{bound_kept}
use Rattle.cg_core_laws.proofs.the_machine_is_that_of_its_history.Goals as goal

pub returns : goal.returns
returns c = record {
  history = λ opening bound requests sound proper. of_history cgroups laws opening sound bound requests proper;
  whole = λ opening bound requests sound proper. machine_is opening _ (of_history cgroups laws opening sound bound requests proper) (serial cgroups laws opening sound bound requests proper);
  bound = λ opening bound requests proper. bound_kept cgroups opening laws bound requests proper;
}
