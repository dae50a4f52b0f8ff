use Rattle.cg_model.specs.Cgroups.{cgroups}
use Rattle.cg_core_laws.proofs.ControlGroups.LawsOfGroups.{laws}
use Rattle.cg_core_laws.specs.Reordered.{NewestClashesWithNone}
use Rattle.cg_core_laws.proofs.Interleaving.Theorem.{by_log}
use Rattle.cg_core_laws.proofs.Interleaving.DroppingOut.{drops_out}
use Rattle.cg_core_laws.proofs.Interleaving.NewestClashesWithNone.{newest_clashes_with_none}
use Rattle.cg_core_laws.proofs.commands_drop_out_of_runs.Goals as goal

pub returns : goal.returns
returns c = record {
  runs = drops_out cgroups laws;
  newest = λ opening bound requests sound proper.
      by_log cgroups laws opening sound bound requests proper (NewestClashesWithNone cgroups opening) (λ c i. newest_clashes_with_none cgroups laws opening c i.kept i.tied);
}
