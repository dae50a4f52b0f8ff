use Rattle.std.proofs.Common.{ap, ◌∙◌}
use Rattle.cg_core.specs.State.{CoreState}
use Rattle.cg_replay.specs.Replay.{Replay, tree_now}
use Rattle.cg_line_machine.proofs.NoFile.{file_refused}
use Rattle.cg_line_machine.proofs.machine.LineMachine.file.Goals as goal

pub returns-clause-refused : goal.returns-clause-refused
returns-clause-refused c =
    file_refused c.args.self.now c.args.path.now c.args.name.now c.tree.result.now.tree c.in_ok-path.path c.in_ok-path.name c.file.result
    (c.tree.ensures.value ∙ ap (λ (s : CoreState). tree_now s) (c.core.ensures ∙ ap (λ (r : Replay). r.core) c.self.view_is)) c.in_ok-path.ensures.path c.in_ok-path.ensures.name c.file.ensures.refused
