use Rattle.cg_name.proofs.Growing.{begins_itself}
use Rattle.cg_replay.proofs.Answered.{on_any_err}
use Rattle.cg_replay.proofs.player.Player.append_end.Goals as goal

pub returns-in_err-append_aborts-clause-kept : goal.returns-in_err-append_aborts-clause-kept
returns-in_err-append_aborts-clause-kept c =
    let first = c.in_err-append_aborts.ensures.first in
    on_any_err c.from_residual.result (begins_itself c.args.out.now.items first.0 c.append_aborts.new.out.items first.2)
