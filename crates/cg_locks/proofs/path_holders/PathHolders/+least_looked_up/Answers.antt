-- On the way up from the first node that is found.
use Rattle.std.proofs.Common.{◌<◌, length, option_map, take, sym, subst, arith}
use Rattle.cg_locks.specs.declared.held.Kind.TheVariants as kinds
use Rattle.cg_locks.specs.declared.held.Part.TheVariants.{CountedAt}
use Rattle.cg_locks.specs.Counts.{prefixes, AreDescending}
use Rattle.cg_locks.specs.HeldByPath.{in_part}
use Rattle.cg_locks.specs.Holders.{held_on, number_of, IsLeastOther}
use Rattle.cg_locks.proofs.CountedNodes.{least_of_others, prefixes_again}
use Rattle.cg_locks.proofs.Counting.{still_descending}
use Rattle.cg_locks.proofs.Keys.{absent_value}
use Rattle.cg_locks.proofs.Seen.{seen_nowhere}
use Rattle.cg_locks.proofs.path_holders.PathHolders.+least_looked_up.Goals as goal

pub least_looked_up-requires : goal.least_looked_up-requires
least_looked_up-requires t c =
    let n = length c.args.path.now in
    let descending = subst (AreDescending n) c.in-Some.ensures.cases.0 c.requires in
    let first : c.in-Some.depth.now < n = descending.0 in
    (omega (arith, c.decreases, c.in-Some.ensures.cases.1), still_descending c.in-Some.depth.now n c.in-Some.shorter.now (omega (arith, first)) descending.1)

pub returns-in-Some-find_prefix : goal.returns-in-Some-find_prefix
returns-in-Some-find_prefix t c =
    let u = c.args.transaction.0 in
    let p = c.args.path.now in
    let d = c.in-Some.depth.now in
    let T = c.self.inside.nodes.values in
    subst (λ m. IsLeastOther u (held_on m.descendants (prefixes p c.args.depths.now)) (option_map number_of c.least.result)) c.self.view_is
    (subst (λ ps. IsLeastOther u (held_on (in_part CountedAt T) ps) (option_map number_of c.least.result)) (prefixes_again p d c.in-Some.shorter.now c.args.depths.now c.in-Some.ensures.cases.0)
    (c.least.ensures (take d p) (sym c.in-Some-find_prefix.ensures)))

pub returns-in-None : goal.returns-in-None
returns-in-None t c =
    let p = c.args.path.now in
    let d = c.in-Some.depth.now in
    let nodes = c.self.inside.nodes in
    let descending = subst (AreDescending (length p)) c.in-Some.ensures.cases.0 c.requires in
    least_of_others c.args.self.now.descendants p d c.in-Some.shorter.now c.args.depths.now c.args.transaction.0 (option_map number_of c.least_looked_up.result) c.in-Some.ensures.cases.0 descending.1
    (λ u. seen_nowhere kinds.Descendants nodes.values c.args.self.now c.self.view_is (take d p) u (absent_value nodes (take d p) (c.laws.ensures.both (take d p)) (sym c.in-None.ensures))) c.least_looked_up.ensures
