-- Number after number.
use Rattle.std.proofs.Common.{◌<◌, refl, sym, subst, ◌∙◌}
use Rattle.cg_locks.specs.declared.held.Part.TheVariants.{CountedAt}
use Rattle.cg_locks.specs.HeldByPath.{in_part}
use Rattle.cg_locks.specs.Holders.{held_at}
use Rattle.cg_locks.proofs.CountedWalks.{taken_next, taken_none, next_to_take}
use Rattle.cg_locks.proofs.Keys.{same_key}
use Rattle.cg_locks.proofs.counted.remove.Goals as goal

pub loop-depth-init : goal.loop-depth-init
loop-depth-init c = record {
  keys = refl;
  taken = λ p h. taken_none c.args.nodes.now.keys c.args.nodes.now.values c.args.transaction.0 p c.args.depths.now c.args.key h (c.requires.held p h);
}

pub remove_at-requires-clause-held : goal.remove_at-requires-clause-held
remove_at-requires-clause-held c = λ r there.
    let t = c.args.transaction.0 in
    let old = c.args.nodes.now.keys in
    let keys = c.loop-depth.nodes.keys in
    let i = c.loop-depth.invariant.taken c.requires.there.0 c.requires.there.1 in
    let at = c.climb-at.ensures i.path (same_key old keys i.path c.loop-depth.at c.loop-depth.invariant.keys i.there) in
    let one = c.laws.ensures.one_path _ r c.climb-at.result (same_key keys old _ c.climb-at.result (sym c.loop-depth.invariant.keys) at) (same_key keys old r c.climb-at.result (sym c.loop-depth.invariant.keys) there) in
    subst (λ q. 0 < held_at (in_part CountedAt c.loop-depth.nodes.values) q t) one
    (next_to_take old c.args.nodes.now.values t c.requires.there.0 c.args.depths.now c.loop-depth.depth-index c.loop-depth.at c.loop-depth.nodes.values i c.loop-depth-test.true)

pub loop-depth-preserved : goal.loop-depth-preserved
loop-depth-preserved c = record {
  keys = c.remove_at.ensures.keys ∙ c.loop-depth.invariant.keys;
  taken = λ p h.
      let old = c.args.nodes.now.keys in
      let keys = c.loop-depth.nodes.keys in
      let i = c.loop-depth.invariant.taken p h in
      let at = c.climb-at.ensures i.path (same_key old keys i.path c.loop-depth.at c.loop-depth.invariant.keys i.there) in
      taken_next old c.args.nodes.now.values c.args.transaction.0 p c.args.depths.now c.loop-depth.depth-index c.loop-depth.at c.loop-depth.nodes.values i c.loop-depth-test.true c.climb-at.result
      (same_key keys old _ c.climb-at.result (sym c.loop-depth.invariant.keys) at) c.remove_at.new.nodes.values (c.remove_at.ensures.less _ at);
}
