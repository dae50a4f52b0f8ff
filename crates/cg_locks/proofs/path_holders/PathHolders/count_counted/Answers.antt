use Rattle.std.proofs.Common.{take, sym, ◌∙◌}
use Rattle.cg_locks.specs.declared.held.Kind.TheVariants as kinds
use Rattle.cg_locks.specs.declared.held.Part.TheVariants.{CountedAt}
use Rattle.cg_locks.proofs.HeldMaps.{held_there}
use Rattle.cg_locks.proofs.Keys.{absent_value}
use Rattle.cg_locks.proofs.Seen.{seen_at, seen_nowhere}
use Rattle.cg_locks.proofs.path_holders.PathHolders.count_counted.Goals as goal

pub returns-in-Some : goal.returns-in-Some
returns-in-Some c =
    let t = c.args.transaction.0 in
    let p = take c.args.depth c.args.path.now in
    let nodes = c.self.inside.nodes in
    let h = c.get-held.result.now in
    c.count.ensures
    ∙ sym (seen_at kinds.Descendants nodes.values c.args.self.now c.self.view_is p t ∙ held_there CountedAt nodes.values p h t (c.get-held.ensures p (sym c.in-Some.ensures)))

pub returns-in-None : goal.returns-in-None
returns-in-None c =
    let p = take c.args.depth c.args.path.now in
    let nodes = c.self.inside.nodes in
    sym (seen_nowhere kinds.Descendants nodes.values c.args.self.now c.self.view_is p c.args.transaction.0 (absent_value nodes p (c.laws.ensures.both p) (sym c.in-None.ensures)))
