use Rattle.std.proofs.Common.{◌+◌, option_map, sym, subst}
use Rattle.cg_locks.specs.declared.held.Kind.TheVariants as kinds
use Rattle.cg_locks.specs.Held.{here_of}
use Rattle.cg_locks.specs.Holders.{held_by, number_of, IsLeastOther}
use Rattle.cg_locks.proofs.Counts.{least_of_sum}
use Rattle.cg_locks.proofs.held.Held.least_here.Goals as goal

pub returns-in-Changed : goal.returns-in-Changed
returns-in-Changed c =
    let t = c.args.transaction.0 in
    let h = c.args.self.now in
    subst (λ k. IsLeastOther t (here_of k h) (option_map number_of c.lesser.result)) (sym c.in-Changed.is)
    (subst (IsLeastOther t (here_of kinds.Changed h)) (sym c.lesser.ensures) (least_of_sum t (held_by h.read_below) (λ u. held_by h.changed_below u + held_by h.stays_below u) _ _ c.least_other.ensures c.least_fixed.ensures))

pub returns-in-Read : goal.returns-in-Read
returns-in-Read c = subst (λ k. IsLeastOther c.args.transaction.0 (here_of k c.args.self.now) (option_map number_of c.least_fixed-in-Read.result)) (sym c.in-Read.is) c.least_fixed-in-Read.ensures

pub returns-in-Descendants : goal.returns-in-Descendants
returns-in-Descendants c = subst (λ k. IsLeastOther c.args.transaction.0 (here_of k c.args.self.now) (option_map number_of c.least_other-in-Descendants.result)) (sym c.in-Descendants.is) c.least_other-in-Descendants.ensures
