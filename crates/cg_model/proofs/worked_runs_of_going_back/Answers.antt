use Rattle.cg_model.proofs.GoingBackRows as rows
use Rattle.cg_model.proofs.worked_runs_of_going_back.Goals as goal

pub returns : goal.returns
returns c = record {
  cpuset_off_and_back = rows.cpuset_off_and_back;
  savepoints = rows.savepoints;
  remade_group = rows.remade_group;
  full_at_four = rows.full_at_four;
  dead_entries = rows.dead_entries;
}
