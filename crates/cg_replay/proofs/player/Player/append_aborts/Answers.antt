use Rattle.std.proofs.Common.{ap, sym, ◌++◌, ◌∙◌}
use Rattle.cg_world_text.specs.World.{world_text}
use Rattle.cg_replay.specs.Replay.{Replay, ending_text, tree_now}
use Rattle.cg_replay.proofs.Answered.{on_any_err}
use Rattle.cg_replay.proofs.player.Player.append_aborts.Goals as goal

pub returns-in_err-append_abort-clause-first : goal.returns-in_err-append_abort-clause-first
returns-in_err-append_abort-clause-first c =
    let told = c.ends.invariant.told in
    on_any_err c.from_residual.result (told.0, ending_text c.ends.self.core, c.in_err-append_abort.ensures.err ∙ told.1, told.2)

pub returns-clause-aborted : goal.returns-clause-aborted
returns-clause-aborted c =
    let told = c.ends.invariant.told in
    let ended = c.in_ok-append_abort.ensures.ended c.if-branch.false in
    (told.0, ended.1 ∙ told.1, told.2 ∙ ap (λ t. told.0 ++ t) (ended.2 ∙ ap (λ (r : Replay). world_text (tree_now r.core)) (sym ended.0)))
