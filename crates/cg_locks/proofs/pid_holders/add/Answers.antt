-- The process has one holding more, in its entry or in a new one.
use Rattle.std.proofs.Common.{◌+◌, ◌==◌, IsSome, Some, refl, sym, ap, subst, ◌∙◌}
use Rattle.std.specs.Ordering.{nat_cmp}
use Rattle.cg_maps.specs.FiniteMap.{from_entries, set_at}
use Rattle.cg_locks.specs.Holders.{held_by, held_if, one}
use Rattle.cg_locks.proofs.Pids.{answers_set, for_one_more, for_as_before, looked_up}
use Rattle.cg_locks.proofs.Results.{after_err}
use Rattle.cg_locks.proofs.pid_holders.add.Goals as goal

pub returns-in-Some-clause-ok : goal.returns-in-Some-clause-ok
returns-in-Some-clause-ok c =
    for_one_more c.args.holders.now.entries _ c.args.pid (Some c.add.new.self)
    (answers_set c.args.holders.now.entries _ c.args.pid (Some c.add.new.self) ((c.get_mut.follows.holds c.add.new.self).3 (subst IsSome c.in-Some.ensures.value refl)).0)
    c.args.transaction.0 (λ u. c.in_ok-add.ensures.ok u ∙ ap (λ r. held_if r u + one (u == c.args.transaction.0)) (c.in-Some.ensures.value ∙ sym (looked_up c.args.holders.now.entries c.args.pid)))

pub returns-in_err-add-clause-err : goal.returns-in_err-add-clause-err
returns-in_err-add-clause-err c =
    after_err c.from_residual.result (for_as_before c.args.holders.now.entries _ c.args.pid (Some c.add.new.self)
    (answers_set c.args.holders.now.entries _ c.args.pid (Some c.add.new.self) ((c.get_mut.follows.holds c.add.new.self).3 (subst IsSome c.in-Some.ensures.value refl)).0)
    (λ u. ap (λ C. held_by C u) c.in_err-add.ensures.err ∙ ap (λ r. held_if r u) (c.in-Some.ensures.value ∙ sym (looked_up c.args.holders.now.entries c.args.pid))))

pub returns-clause-ok : goal.returns-clause-ok
returns-clause-ok c =
    for_one_more c.args.holders.now.entries _ c.args.pid (Some c.add-2.new.self) (answers_set _ c.insert.new.self.entries c.args.pid (Some c.add-2.new.self) c.in_ok-insert.ensures.updates.0 ∙ ap (λ m. set_at (from_entries nat_cmp m.entries) c.args.pid (Some c.add-2.new.self)) c.get_mut.follows.holds-at-none)
    c.args.transaction.0 (λ u. c.in_ok-add-2.ensures.ok u ∙ ap (λ n. n + one (u == c.args.transaction.0)) (c.new-there.ensures u ∙ ap (λ r. held_if r u) (c.in_default.ensures.value ∙ sym (looked_up c.args.holders.now.entries c.args.pid))))
