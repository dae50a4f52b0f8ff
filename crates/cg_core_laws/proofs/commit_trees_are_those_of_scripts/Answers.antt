use Rattle.cg_model.specs.Cgroups.{cgroups}
use Rattle.cg_core_laws.proofs.Interleaving.CommittedScripts.{commit_trees, trees_of_scripts}
use Rattle.cg_core_laws.proofs.commit_trees_are_those_of_scripts.Goals as goal

pub returns : goal.returns
returns c = record { later = commit_trees cgroups; scripts = trees_of_scripts cgroups }
