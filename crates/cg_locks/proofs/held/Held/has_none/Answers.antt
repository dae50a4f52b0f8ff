use Rattle.std.proofs.Common.{◌≡◌, arith}
use Rattle.std.proofs.lemmas.Bool.Decides.{nat_tests}
use Rattle.cg_locks.proofs.HeldParts.{nobody_in}
use Rattle.cg_locks.proofs.held.Held.has_none.Goals as goal

pub returns : goal.returns
returns c = λ yes u.
    let none : c.get.result.times ≡ 0 = grind (arith, nat_tests, yes) in
    nobody_in c.args.part c.self.inside.firsts c.self.inside.others.items c.self.invariant c.args.self.now c.self.view_is c.get.result c.get.ensures none u
