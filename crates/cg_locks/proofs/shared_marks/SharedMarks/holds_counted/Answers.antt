use Rattle.std.proofs.Common.{◌↔◌, IsTrue, sym, subst}
use Rattle.cg_locks.specs.Counts.{prefixes}
use Rattle.cg_locks.specs.Holdings.{HoldsAll}
use Rattle.cg_locks.specs.Meaning.{counts_of}
use Rattle.cg_locks.proofs.CountedMarks.{all_of_held, held_of_all}
use Rattle.cg_locks.proofs.OfKinds.{kinds}
use Rattle.cg_locks.proofs.shared_marks.SharedMarks.holds_counted.Goals as goal

pub returns-in-Some : goal.returns-in-Some
returns-in-Some c =
    let K = kinds c.self.inside in
    let H = c.args.self.now in
    let ps = prefixes c.in-Some.these.path.now c.in-Some.these.depths.now in
    subst (λ o. IsTrue c.holds_counted.result ↔ HoldsAll H c.args.transaction.0 (counts_of o)) (sym c.in-Some.is) (
      λ yes. all_of_held K H c.self.view_is c.args.transaction.0 ps (c.holds_counted.ensures.0 yes),
      λ all. c.holds_counted.ensures.1 (held_of_all K H c.self.view_is c.args.transaction.0 ps all),
    )
