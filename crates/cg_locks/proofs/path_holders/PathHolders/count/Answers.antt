use Rattle.std.proofs.Common.{sym, ap, ◌∙◌}
use Rattle.cg_locks.specs.Held.{at_path, part_of}
use Rattle.cg_locks.specs.Holders.{held_by}
use Rattle.cg_locks.proofs.HeldMaps.{held_there}
use Rattle.cg_locks.proofs.Keys.{absent_value}
use Rattle.cg_locks.proofs.Seen.{seen_at, seen_nowhere}
use Rattle.cg_locks.proofs.path_holders.PathHolders.count.Goals as goal

pub returns-in-Some : goal.returns-in-Some
returns-in-Some c =
    let t = c.args.transaction.0 in
    let p = c.args.path.now in
    let k = c.args.kind in
    let nodes = c.self.inside.nodes in
    let h = c.get-held.result.now in
    c.count.ensures ∙ ap (λ s. held_by (part_of s h) t) c.at_path.ensures
    ∙ sym (seen_at k nodes.values c.args.self.now c.self.view_is p t ∙ held_there (at_path k) nodes.values p h t (c.get-held.ensures p (sym c.in-Some.ensures)))

pub returns-in-None : goal.returns-in-None
returns-in-None c =
    let p = c.args.path.now in
    let nodes = c.self.inside.nodes in
    sym (seen_nowhere c.args.kind nodes.values c.args.self.now c.self.view_is p c.args.transaction.0 (absent_value nodes p (c.laws.ensures.both p) (sym c.in-None.ensures)))
