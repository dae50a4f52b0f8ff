-- Where there is no node nothing is held.
use Rattle.std.proofs.Common.{sym, arith}
use Rattle.cg_locks.proofs.Keys.{absent_value}
use Rattle.cg_locks.proofs.Seen.{seen_nowhere}
use Rattle.cg_locks.proofs.path_holders.PathHolders.remove.Goals as goal

pub returns-in_default : goal.returns-in_default
returns-in_default c = λ j q u.
    let p = c.args.path.now in
    let nodes = c.self.inside.nodes in
    let none = seen_nowhere c.args.kind nodes.values c.args.self.now c.self.view_is p c.args.transaction.0 (absent_value nodes p (c.laws.ensures.both p) (sym c.in_default.ensures)) in
    absurd (omega (arith, c.requires, none))
