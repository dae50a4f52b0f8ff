-- The walk comes to the node before.
use Rattle.cg_path_tree.specs.Chains.{link_of, link_in}
use Rattle.cg_path_tree.proofs.Chaining.{walk_begins, walk_there, walk_found, walk_on, walk_ends}
use Rattle.cg_path_tree.proofs.Linking.{same_key, other_key}
use Rattle.cg_path_tree.proofs.Views.{link_at, link_slot}
use Rattle.cg_path_tree.proofs.chains.find_before.Goals as goal

pub loop-init : goal.loop-init
loop-init g c = walk_begins (link_in c.args.nodes.now) c.args.head c.args.key c.requires

pub index-requires : goal.index-requires
index-requires g c =
    let x = walk_there (link_in c.args.nodes.now) c.args.head c.args.key c.loop.at c.loop.counter c.loop.invariant in
    link_slot c.args.nodes.now c.loop.at c.number.result c.number.ensures x.0 x.1

pub returns-then-eq : goal.returns-then-eq
returns-then-eq g c =
    walk_found (link_in c.args.nodes.now) c.args.head c.args.key c.loop.at c.loop.counter c.loop.invariant (link_of c.index.result.now)
    (link_at c.args.nodes.now c.loop.at c.number.result c.index.result.now c.number.ensures c.index.ensures)
    (same_key c.index.result.now.next c.args.key c.eq.result c.eq.ensures c.if-eq.true)

pub loop-preserved : goal.loop-preserved
loop-preserved g c =
    walk_on (link_in c.args.nodes.now) c.args.head c.args.key c.loop.at c.loop.counter c.loop.invariant (link_of c.index.result.now)
    (link_at c.args.nodes.now c.loop.at c.number.result c.index.result.now c.number.ensures c.index.ensures)
    (other_key c.index.result.now.next c.args.key c.eq.result c.eq.ensures c.if-eq.false)

pub unreachable-requires : goal.unreachable-requires
unreachable-requires g c = walk_ends (link_in c.args.nodes.now) c.args.head c.args.key c.loop.at c.loop.counter c.loop.invariant c.loop-test.false
