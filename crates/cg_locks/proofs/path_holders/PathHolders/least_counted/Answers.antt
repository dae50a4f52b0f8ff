-- From the path's own node on.
use Rattle.std.proofs.Common.{option_map, sym, subst}
use Rattle.cg_locks.specs.Counts.{prefixes}
use Rattle.cg_locks.specs.Holders.{held_on, number_of, IsLeastOther}
use Rattle.cg_locks.proofs.path_holders.PathHolders.least_counted.Goals as goal

pub returns-in-Some : goal.returns-in-Some
returns-in-Some c =
    subst (λ m. IsLeastOther c.args.transaction.0 (held_on m.descendants (prefixes c.args.path.now c.args.depths.now)) (option_map number_of c.least.result)) c.self.view_is
    (c.least.ensures c.args.path.now (sym c.in-Some.ensures))
