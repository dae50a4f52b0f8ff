use Rattle.std.proofs.lemmas.Bool.{eqb-true}
use Rattle.cg_locks.proofs.Firsts.{none_held}
use Rattle.cg_locks.proofs.holders.Holders.is_empty.Goals as goal

pub returns : goal.returns
returns c = λ yes u. none_held c.self.inside.first c.self.inside.times c.self.inside.others.items c.self.invariant c.args.self.now c.self.view_is u (eqb-true c.self.inside.times 0 yes)
