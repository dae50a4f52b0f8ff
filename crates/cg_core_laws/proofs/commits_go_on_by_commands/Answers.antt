use Rattle.cg_model.specs.Cgroups.{cgroups}
use Rattle.cg_core_laws.proofs.ControlGroups.LawsOfGroups.{laws}
use Rattle.cg_core_laws.proofs.Interleaving.CommitsByCommands.{are_commits}
use Rattle.cg_core_laws.proofs.Interleaving.Theorem.{faithful, serial}
use Rattle.cg_core_laws.proofs.commits_go_on_by_commands.Goals as goal

pub returns : goal.returns
returns c opening bound requests sound proper =
    are_commits cgroups opening _ _ (faithful cgroups laws opening sound bound requests proper).legal (serial cgroups laws opening sound bound requests proper).commits
