use Rattle.std.proofs.Common.{◌≡◌, ◌<◌, sym, ◌∙◌, arith}
use Rattle.std.proofs.lemmas.Bool.Decides.{nat_tests}
use Rattle.cg_model.specs.Footprint.{X}
use Rattle.cg_locks.specs.Holdings.{holdings}
use Rattle.cg_locks.proofs.OfKinds.{kinds}
use Rattle.cg_locks.proofs.Tables.{told_of}
use Rattle.cg_locks.proofs.shared_marks.SharedMarks.holds_changed.Goals as goal

pub returns : goal.returns
returns c =
    let is : c.count.result ≡ holdings c.args.self.now c.args.transaction.0 (X c.args.path.now) = c.count.ensures ∙ sym (told_of (kinds c.self.inside) c.args.self.now c.self.view_is c.args.transaction.0 (X c.args.path.now)) in (
      λ yes. let low : 0 < c.count.result = grind (arith, nat_tests, yes) in omega (arith, is, low),
      λ held. let low : 0 < c.count.result = omega (arith, is, held) in grind (arith, nat_tests, low),
    )
