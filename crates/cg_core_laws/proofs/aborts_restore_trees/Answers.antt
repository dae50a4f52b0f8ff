use Rattle.cg_model.specs.Cgroups.{cgroups}
use Rattle.cg_core_laws.proofs.ControlGroups.LawsOfGroups.{laws}
use Rattle.cg_core_laws.proofs.Interleaving.AbortsRestore.{numbers_within, restores}
use Rattle.cg_core_laws.proofs.aborts_restore_trees.Goals as goal

pub returns : goal.returns
returns c opening bound requests sound proper s t between = restores cgroups laws _ (numbers_within cgroups laws opening bound requests proper) s t between
