-- An entry where nobody is left holds nothing.
use Rattle.std.proofs.Common.{None, sym, ap, ◌∙◌}
use Rattle.std.proofs.lemmas.Bool.{false≢true}
use Rattle.cg_locks.specs.Holders.{held_if}
use Rattle.cg_locks.proofs.Pids.{answers_set, for_as_before, looked_up}
use Rattle.cg_locks.proofs.pid_holders.drop_empty.Goals as goal
use Rattle.cg_locks.proofs.pid_holders.drop_empty.Goals.{in-Some, in-None}

pub returns-then-is_empty : goal.returns-then-is_empty
returns-then-is_empty c =
    for_as_before c.args.holders.now.entries _ c.args.pid None (answers_set c.args.holders.now.entries c.swap_remove.new.self.entries c.args.pid None c.swap_remove.ensures.updates.0) (λ u. elim c.match-get.branch [
      | in-Some w ↦ sym (ap (λ r. held_if r u) (looked_up c.args.holders.now.entries c.args.pid ∙ sym w.in-Some.ensures.value) ∙ w.is_empty-is_empty.ensures (sym w.is_empty-is ∙ c.if-is_empty.true) u)
      | in-None w ↦ absurd (false≢true (sym w.is_empty-is ∙ c.if-is_empty.true))
    ])
