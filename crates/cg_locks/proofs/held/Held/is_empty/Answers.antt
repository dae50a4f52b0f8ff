use Rattle.cg_locks.proofs.HeldParts.{nobody}
use Rattle.cg_locks.proofs.held.Held.is_empty.Goals as goal

pub returns : goal.returns
returns c = λ yes. nobody c.self.inside.firsts c.self.inside.others.items c.self.invariant c.args.self.now c.self.view_is (c.are_none.ensures yes)
