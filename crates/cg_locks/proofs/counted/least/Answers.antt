-- Number after number.
use Rattle.std.proofs.Common.{option_map}
use Rattle.cg_locks.specs.Holders.{number_of}
use Rattle.cg_locks.proofs.CountedWalks.{found_all, found_next, found_none}
use Rattle.cg_locks.proofs.counted.least.Goals as goal

pub loop-depth-init : goal.loop-depth-init
loop-depth-init c = λ p h. found_none c.args.nodes.now.keys c.args.nodes.now.values c.args.transaction.0 p c.args.depths.now c.args.key h

pub loop-depth-preserved : goal.loop-depth-preserved
loop-depth-preserved c = λ p h.
    let T = c.args.nodes.now.values in
    let i = c.loop-depth.invariant p h in
    let there = c.climb-at.ensures i.path i.there in
    found_next c.args.nodes.now.keys T c.args.transaction.0 p c.args.depths.now c.loop-depth.depth-index c.loop-depth.at (option_map number_of c.loop-depth.least) i c.loop-depth-test.true c.climb-at.result there
    c.get.result.now (c.get.ensures _ there) (option_map number_of c.least_here.result) (option_map number_of c.lesser-least.result) c.least_here.ensures c.lesser-least.ensures

pub returns : goal.returns
returns c = λ p h.
    found_all c.args.nodes.now.keys c.args.nodes.now.values c.args.transaction.0 p c.args.depths.now c.loop-depth.depth-index c.loop-depth.at (option_map number_of c.loop-depth.least) (c.loop-depth.invariant p h) c.loop-depth-test.false
