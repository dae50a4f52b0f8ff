use Rattle.cg_model.proofs.CommandRows as rows
use Rattle.cg_model.proofs.worked_runs_of_commands.Goals as goal

pub returns : goal.returns
returns c = record {
  enabling = rows.enabling;
  effective_cpus = rows.effective_cpus;
  freeze_and_populated = rows.freeze_and_populated;
  migrate_and_remove = rows.migrate_and_remove;
  limits = rows.limits;
  own_refusals = rows.own_refusals;
  hotplug = rows.hotplug;
}
