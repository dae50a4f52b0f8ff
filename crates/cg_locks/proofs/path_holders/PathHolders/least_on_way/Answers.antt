-- At the path's node and above it, or from the deepest node on the path upward.
use Rattle.std.proofs.Common.{option_map, take, None, sym, subst}
use Rattle.cg_locks.specs.Held.{in_way}
use Rattle.cg_locks.specs.HeldByPath.{marked}
use Rattle.cg_locks.specs.Holders.{number_of, IsLeastOther}
use Rattle.cg_locks.proofs.Clashes.{least_from_deepest, least_of_none, least_with_node}
use Rattle.cg_locks.proofs.Keys.{absent_value}
use Rattle.cg_locks.proofs.path_holders.PathHolders.least_on_way.Goals as goal

pub returns-in-Some : goal.returns-in-Some
returns-in-Some c =
    let t = c.args.transaction.0 in
    let p = c.args.path.now in
    let k = c.args.kind in
    let nodes = c.self.inside.nodes in
    subst (λ m. IsLeastOther t (in_way m k p) (option_map number_of c.lesser.result)) c.self.view_is
    (subst (IsLeastOther t (in_way (marked nodes.values) k p)) (sym c.lesser.ensures)
    (least_with_node nodes.values c.self.invariant k p t c.get.result.now (option_map number_of c.least_here.result) (option_map number_of c.least_above.result)
    (c.get.ensures p (sym c.in-Some.ensures)) c.least_here.ensures (c.least_above.ensures p (sym c.in-Some.ensures))))

pub returns-in-Some-deepest_above : goal.returns-in-Some-deepest_above
returns-in-Some-deepest_above c =
    let t = c.args.transaction.0 in
    let p = c.args.path.now in
    let k = c.args.kind in
    let nodes = c.self.inside.nodes in
    let d = c.in-Some-deepest_above._depth in
    subst (λ m. IsLeastOther t (in_way m k p) (option_map number_of c.least_above-in-Some-deepest_above.result)) c.self.view_is
    (least_from_deepest nodes.values c.self.invariant k p t (absent_value nodes p (c.laws.ensures.both p) (sym c.in-None.ensures)) d (option_map number_of c.least_above-in-Some-deepest_above.result) c.in-Some-deepest_above.ensures.within
    (λ m low high. absent_value nodes (take m p) (c.laws.ensures.both (take m p)) (c.in-Some-deepest_above.ensures.deepest m low high))
    (c.least_above-in-Some-deepest_above.ensures (take d p) c.in-Some-deepest_above.ensures.found))

pub returns-in-None-deepest_above : goal.returns-in-None-deepest_above
returns-in-None-deepest_above c =
    let t = c.args.transaction.0 in
    let p = c.args.path.now in
    let k = c.args.kind in
    let nodes = c.self.inside.nodes in
    subst (λ m. IsLeastOther t (in_way m k p) None) c.self.view_is
    (least_of_none nodes.values c.self.invariant k p t (absent_value nodes p (c.laws.ensures.both p) (sym c.in-None.ensures)) (λ m. absent_value nodes (take m p) (c.laws.ensures.both (take m p)) (c.in-None-deepest_above.ensures.none m)))
