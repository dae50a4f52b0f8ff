use Rattle.std.proofs.Common.{None, option_map, refl, sym, subst, ◌∙◌}
use Rattle.cg_locks.specs.Holders.{held_if, number_of, IsLeastOther}
use Rattle.cg_locks.proofs.Counts.{no_holder}
use Rattle.cg_locks.proofs.Pids.{looked_up}
use Rattle.cg_locks.proofs.pid_holders.least.Goals as goal

pub returns-in-Some : goal.returns-in-Some
returns-in-Some c =
    subst (λ r. IsLeastOther c.args.transaction.0 (λ u. held_if r u) (option_map number_of c.least_other.result)) (c.in-Some.ensures.value ∙ sym (looked_up c.args.holders.now.entries c.args.pid)) c.least_other.ensures

pub returns-in-None : goal.returns-in-None
returns-in-None c =
    subst (λ r. IsLeastOther c.args.transaction.0 (λ u. held_if r u) None) (c.in-None.ensures.value ∙ sym (looked_up c.args.holders.now.entries c.args.pid)) (no_holder c.args.transaction.0 (λ u. 0) (λ u. refl))
