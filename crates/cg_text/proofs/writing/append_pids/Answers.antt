-- What stood there stays at the front, whatever is behind it.
use Rattle.cg_name.proofs.Growing.{begins_on, on_err}
use Rattle.cg_text.proofs.writing.append_pids.Goals as goal

pub returns-in_err-append_number-clause-kept : goal.returns-in_err-append_number-clause-kept
returns-in_err-append_number-clause-kept c =
    on_err _ _ (begins_on c.args.out.now.items c.loop-pid.out.items _ c.loop-pid.invariant.kept c.in_err-append_number.ensures.kept)
