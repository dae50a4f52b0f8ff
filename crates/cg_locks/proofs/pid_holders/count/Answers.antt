use Rattle.std.proofs.Common.{sym, ap, ◌∙◌}
use Rattle.cg_locks.specs.Holders.{held_if}
use Rattle.cg_locks.proofs.Pids.{looked_up}
use Rattle.cg_locks.proofs.pid_holders.count.Goals as goal

pub returns-in-Some : goal.returns-in-Some
returns-in-Some c = c.count.ensures ∙ ap (λ r. held_if r c.args.transaction.0) (c.in-Some.ensures.value ∙ sym (looked_up c.args.holders.now.entries c.args.pid))

pub returns-in-None : goal.returns-in-None
returns-in-None c = ap (λ r. held_if r c.args.transaction.0) (c.in-None.ensures.value ∙ sym (looked_up c.args.holders.now.entries c.args.pid))
