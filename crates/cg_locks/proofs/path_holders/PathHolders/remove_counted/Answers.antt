-- Where there is no node nothing is held.
use Rattle.std.proofs.Common.{◌≤◌, take, sym, subst}
use Rattle.cg_locks.specs.Counts.{prefixes}
use Rattle.cg_locks.specs.declared.held.Kind.TheVariants as kinds
use Rattle.cg_locks.specs.declared.held.Part.TheVariants.{CountedAt}
use Rattle.cg_locks.specs.HeldByPath.{in_part}
use Rattle.cg_locks.specs.Holders.{held_at, times_on}
use Rattle.cg_locks.proofs.CountedNodes.{none_to_take}
use Rattle.cg_locks.proofs.Keys.{absent_value}
use Rattle.cg_locks.proofs.Seen.{seen_at, seen_nowhere}
use Rattle.cg_locks.proofs.path_holders.PathHolders.remove_counted.Goals as goal

pub returns-in_default : goal.returns-in_default
returns-in_default c =
    let nodes = c.self.inside.nodes in
    let t = c.args.transaction.0 in
    let p = c.args.path.now in
    none_to_take c.args.self.now t p c.args.depths.now c.requires
    (λ d ds is. seen_nowhere kinds.Descendants nodes.values c.args.self.now c.self.view_is (take d p) t (absent_value nodes (take d p) (c.laws.ensures.both (take d p)) (c.in_default.ensures.none d ds is)))

pub remove-requires-clause-held : goal.remove-requires-clause-held
remove-requires-clause-held c = λ r there q.
    let T = c.self.inside.nodes.values in
    let t = c.args.transaction.0 in
    let p = c.args.path.now in
    subst (λ ps. times_on q ps ≤ held_at (in_part CountedAt T) q t) (sym (c.in-Some.ensures.same r there))
    (subst (λ n. times_on q (prefixes p c.args.depths.now) ≤ n) (seen_at kinds.Descendants T c.args.self.now c.self.view_is q t) (c.requires q))
