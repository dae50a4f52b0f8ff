use Rattle.std.proofs.Common.{option_map, sym, subst}
use Rattle.cg_locks.specs.Held.{above_of}
use Rattle.cg_locks.specs.Holders.{number_of, IsLeastOther}
use Rattle.cg_locks.proofs.held.Held.least_above.Goals as goal

pub returns-in-Changed : goal.returns-in-Changed
returns-in-Changed c = subst (λ k. IsLeastOther c.args.transaction.0 (above_of k c.args.self.now) (option_map number_of c.least_subtree.result)) (sym c.in-Changed.is) c.least_subtree.ensures

pub returns-in-Read : goal.returns-in-Read
returns-in-Read c = subst (λ k. IsLeastOther c.args.transaction.0 (above_of k c.args.self.now) (option_map number_of c.least_other.result)) (sym c.in-Read.is) c.least_other.ensures

pub returns-in-Stays : goal.returns-in-Stays
returns-in-Stays c = subst (λ k. IsLeastOther c.args.transaction.0 (above_of k c.args.self.now) (option_map number_of c.least_subtree-in-Stays.result)) (sym c.in-Stays.is) c.least_subtree-in-Stays.ensures
