-- The node itself, or that of the path above.
use Rattle.std.proofs.Common.{arith}
use Rattle.std.proofs.lemmas.List.{take_all}
use Rattle.cg_locks.proofs.CountedNodes.{first_of_root}
use Rattle.cg_locks.proofs.CountedWalks.{way_begins, way_ends, way_up}
use Rattle.cg_locks.proofs.Keys.{above_of_key, at_root, shorter}
use Rattle.cg_locks.proofs.counted.climb.Goals as goal

pub up-init : goal.up-init
up-init c = λ p h. way_begins c.args.nodes.now.keys c.args.depth p c.args.key h

pub up-smaller : goal.up-smaller
up-smaller c =
    let keys = c.args.nodes.now.keys in
    let i = c.up.invariant c.requires.0 c.requires.1 in
    shorter keys c.up.at c.in-Some.parent c.laws.ensures.one_path i.path i.there (above_of_key keys c.up.at c.in-Some.parent (λ q k. c.in-Some.ensures.root q k) (λ q k r. c.in-Some.ensures.value q k r) i.path i.there)

pub up-preserved : goal.up-preserved
up-preserved c = λ p h.
    let keys = c.args.nodes.now.keys in
    let i = c.up.invariant p h in
    let long = c.depth.ensures i.path i.there in
    way_up keys c.args.depth p c.up.at i c.in-Some.parent (omega (arith, long, c.up-test.true))
    (above_of_key keys c.up.at c.in-Some.parent (λ q k. c.in-Some.ensures.root q k) (λ q k r. c.in-Some.ensures.value q k r) i.path i.there)

pub returns-in_default : goal.returns-in_default
returns-in_default c = λ p h.
    let i = c.up.invariant p h in
    way_ends c.args.nodes.now.keys c.args.depth p c.up.at i (first_of_root i.path c.args.depth (at_root i.path (c.in_default.ensures.root i.path i.there)))

pub returns : goal.returns
returns c = λ p h.
    let i = c.up.invariant p h in
    let long = c.depth.ensures i.path i.there in
    way_ends c.args.nodes.now.keys c.args.depth p c.up.at i (take_all c.args.depth i.path (omega (arith, long, c.up-test.false)))
