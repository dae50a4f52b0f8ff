use Rattle.std.proofs.Common.{[], None, option_map, sym, subst}
use Rattle.cg_locks.specs.Counts.{prefixes}
use Rattle.cg_locks.specs.Holders.{number_of, IsLeast}
use Rattle.cg_locks.specs.Holdings.{IsInTheWay}
use Rattle.cg_locks.specs.Meaning.{counts_of}
use Rattle.cg_locks.proofs.CountedMarks.{least_on}
use Rattle.cg_locks.proofs.OfKinds.{kinds}
use Rattle.cg_locks.proofs.Ways.{none_so_far}
use Rattle.cg_locks.proofs.shared_marks.SharedMarks.least_counted.Goals as goal

pub returns-in-Some : goal.returns-in-Some
returns-in-Some c =
    let H = c.args.self.now in
    let r = option_map number_of c.least_counted.result in
    subst (λ o. IsLeast (IsInTheWay H c.args.transaction.0 (counts_of o)) r) (sym c.in-Some.is)
    (least_on (kinds c.self.inside) H c.self.view_is c.args.transaction.0 (prefixes c.in-Some.these.path.now c.in-Some.these.depths.now) r c.least_counted.ensures)

pub returns-in-None : goal.returns-in-None
returns-in-None c =
    subst (λ o. IsLeast (IsInTheWay c.args.self.now c.args.transaction.0 (counts_of o)) None) (sym c.in-None.is) (none_so_far c.args.self.now c.args.transaction.0 [])
