-- The root's node tells of all holders below it.
use Rattle.std.proofs.Common.{None, sym, subst}
use Rattle.cg_locks.specs.Held.{in_way}
use Rattle.cg_locks.specs.Holders.{IsLeastOther}
use Rattle.cg_locks.proofs.Alone.{alone_at_root, some_part}
use Rattle.cg_locks.proofs.path_holders.PathHolders.is_alone.Goals as goal

pub returns-in-Some : goal.returns-in-Some
returns-in-Some c = λ alone.
    let t = c.args.transaction.0 in
    let nodes = c.self.inside.nodes in
    let part = some_part c.args.kind c.at_or_below.result c.is_none.result c.at_or_below.ensures c.is_none.ensures c.if-is_none.false in
    subst (λ m. IsLeastOther t (in_way m c.args.kind c.args.path.now) None) c.self.view_is
    (alone_at_root nodes.values c.self.invariant c.args.kind part.0 part.1 c.args.path.now t c.in-Some.root.now (sym c.in-Some.ensures)
    (c.is_alone.ensures alone))
