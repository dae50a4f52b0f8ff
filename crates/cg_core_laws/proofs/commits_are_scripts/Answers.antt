use Rattle.cg_model.specs.Cgroups.{cgroups}
use Rattle.cg_core_laws.proofs.Interleaving.CommittedScripts.{are_scripts}
use Rattle.cg_core_laws.proofs.commits_are_scripts.Goals as goal

pub returns : goal.returns
returns c = are_scripts cgroups
