-- The node's own, and then those above it.
use Rattle.std.proofs.Common.{option_map}
use Rattle.cg_locks.specs.Held.{above_of}
use Rattle.cg_locks.specs.Holders.{number_of}
use Rattle.cg_locks.proofs.Climbing.{passed_all, passed_next, passed_none}
use Rattle.cg_locks.proofs.Keys.{above_of_key, at_root, shorter}
use Rattle.cg_locks.proofs.upward.least_above.Goals as goal

pub up-init : goal.up-init
up-init c = λ p h. passed_none c.args.nodes.now.keys (above_of c.args.kind) c.args.nodes.now.values c.args.transaction.0 p c.args.key h

pub up-smaller : goal.up-smaller
up-smaller c =
    let keys = c.args.nodes.now.keys in
    let i = c.up.invariant c.requires.0 c.requires.1 in
    shorter keys c.up.at c.in-Some.parent c.laws.ensures.one_path i.path i.there (above_of_key keys c.up.at c.in-Some.parent (λ q k. c.in-Some.ensures.root q k) (λ q k r. c.in-Some.ensures.value q k r) i.path i.there)

pub up-preserved : goal.up-preserved
up-preserved c = λ p h.
    let keys = c.args.nodes.now.keys in
    let i = c.up.invariant p h in
    passed_next keys (above_of c.args.kind) c.args.nodes.now.values c.args.transaction.0 p c.up.at (option_map number_of c.up.least) i c.get.result.now (c.get.ensures i.path i.there)
    (option_map number_of c.least_above.result) (option_map number_of c.lesser-least.result) c.least_above.ensures c.lesser-least.ensures
    c.in-Some.parent (above_of_key keys c.up.at c.in-Some.parent (λ q k. c.in-Some.ensures.root q k) (λ q k r. c.in-Some.ensures.value q k r) i.path i.there)

pub returns-in_default : goal.returns-in_default
returns-in_default c = λ p h.
    let i = c.up.invariant p h in
    passed_all c.args.nodes.now.keys (above_of c.args.kind) c.args.nodes.now.values c.args.transaction.0 p c.up.at (option_map number_of c.up.least) i c.get.result.now (c.get.ensures i.path i.there)
    (option_map number_of c.least_above.result) (option_map number_of c.lesser-least.result) c.least_above.ensures c.lesser-least.ensures
    (at_root i.path (c.in_default.ensures.root i.path i.there))
