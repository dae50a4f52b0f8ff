use Rattle.cg_model.specs.Cgroups.{cgroups}
use Rattle.cg_core_laws.proofs.Interleaving.Refusals.{leaves_all}
use Rattle.cg_core_laws.proofs.refusals_leave_all.Goals as goal

pub returns : goal.returns
returns c opening h r x refused = leaves_all cgroups h x opening r refused
