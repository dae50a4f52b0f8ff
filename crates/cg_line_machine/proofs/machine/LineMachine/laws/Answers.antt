use Rattle.std.proofs.Common.{ap, subst, ◌∙◌}
use Rattle.cg_core.specs.State.{CoreState, machine}
use Rattle.cg_core_laws.specs.CommittedCommands.{AreCommits}
use Rattle.cg_core_laws.specs.Laws.{GoBack, IsBusyExactly}
use Rattle.cg_core_laws.specs.Serial.{OthersStay}
use Rattle.cg_line_machine.proofs.machine.LineMachine.laws.Goals as goal
use Rattle.cg_model.specs.Cgroups.{cgroups}
use Rattle.cg_replay.specs.Replay.{Replay}

pub returns-clause-going_back : goal.returns-clause-going_back
returns-clause-going_back c = subst (λ (s : CoreState). GoBack (machine s)) (c.core.ensures ∙ ap (λ (r : Replay). r.core) c.self.view_is) c.laws.ensures.going_back

pub returns-clause-others : goal.returns-clause-others
returns-clause-others c = subst (λ (s : CoreState). OthersStay cgroups (machine s)) (c.core.ensures ∙ ap (λ (r : Replay). r.core) c.self.view_is) c.laws.ensures.others

pub returns-clause-busy : goal.returns-clause-busy
returns-clause-busy c = subst (λ (s : CoreState). IsBusyExactly s.opening (machine s)) (c.core.ensures ∙ ap (λ (r : Replay). r.core) c.self.view_is) c.laws.ensures.busy

pub returns-clause-commits : goal.returns-clause-commits
returns-clause-commits c = subst (λ (s : CoreState). AreCommits cgroups s.opening s.history) (c.core.ensures ∙ ap (λ (r : Replay). r.core) c.self.view_is) c.laws.ensures.commits
