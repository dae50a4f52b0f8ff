-- One less at each node, down to the last.
use Rattle.std.proofs.Common.{◌≡◌, ◌<◌, Some, sym, subst, ◌∙◌, refl, arith}
use Rattle.cg_maps.specs.FiniteMap.{get}
use Rattle.cg_name.specs.Path.{Path}
use Rattle.cg_path_tree.specs.Nodes.{parent_path}
use Rattle.cg_locks.specs.HeldByPath.{in_part}
use Rattle.cg_locks.specs.Holders.{held_at}
use Rattle.cg_locks.proofs.Keys.{above_of_key, at_root, same_key, shorter, IsAbove}
use Rattle.cg_locks.proofs.Unwinding.{back_all, back_held, back_next, back_none, no_names}
use Rattle.cg_locks.proofs.upward.remove_beyond.Goals as goal

pub up-init : goal.up-init
up-init c = record {
  keys = refl;
  back = λ p h. back_none c.args.nodes.now.keys c.args.nodes.now.values c.args.part c.args.depth c.args.transaction.0 p c.args.key h (c.requires.held p h);
}

pub remove_at-requires-clause-held : goal.remove_at-requires-clause-held
remove_at-requires-clause-held c = λ q k.
    let old = c.args.nodes.now.keys in
    let M = c.up.nodes.values in
    let t = c.args.transaction.0 in
    let i = c.up.invariant.back c.requires.there.0 c.requires.there.1 in
    let there = same_key c.up.nodes.keys old q c.up.at (sym c.up.invariant.keys) k in
    let long = c.depth.ensures i.path (same_key old c.up.nodes.keys i.path c.up.at c.up.invariant.keys i.there) in
    subst (λ r. 0 < held_at (in_part c.args.part M) r t) (c.laws.ensures.one_path i.path q c.up.at i.there there)
    (back_held old c.args.nodes.now.values c.args.part c.args.depth t c.requires.there.0 c.up.at M i (omega (arith, long, c.up-test.true)))

-- the keys stay, and the node's parent is above it
up_from : (c : goal.In-Some) → (p : Path) → get c.args.nodes.now.keys p ≡ Some c.up.at → IsAbove c.args.nodes.now.keys c.up.at c.in-Some.parent p
up_from c p h =
    let old = c.args.nodes.now.keys in
    let keys = c.remove_at.new.nodes.keys in
    let same : keys ≡ old = c.remove_at.ensures.keys ∙ c.up.invariant.keys in
    let above = above_of_key keys c.up.at c.in-Some.parent (λ q k. c.in-Some.ensures.root q k) (λ q k r. c.in-Some.ensures.value q k r) p (same_key old keys p c.up.at same h) in
    record { root = above.root; there = same_key keys old (parent_path p) c.in-Some.parent (sym same) above.there }

pub up-smaller : goal.up-smaller
up-smaller c =
    let i = c.up.invariant.back c.requires.there.0 c.requires.there.1 in
    shorter c.args.nodes.now.keys c.up.at c.in-Some.parent c.laws.ensures.one_path i.path i.there (up_from c i.path i.there)

pub up-preserved : goal.up-preserved
up-preserved c = record {
  keys = c.remove_at.ensures.keys ∙ c.up.invariant.keys;
  back = λ p h.
      let old = c.args.nodes.now.keys in
      let i = c.up.invariant.back p h in
      let there = same_key old c.up.nodes.keys i.path c.up.at c.up.invariant.keys i.there in
      let long = c.depth.ensures i.path there in
      back_next old c.args.nodes.now.values c.args.part c.args.depth c.args.transaction.0 p c.up.at c.up.nodes.values i (omega (arith, long, c.up-test.true))
      c.remove_at.new.nodes.values (c.remove_at.ensures.less i.path there) c.in-Some.parent (up_from c i.path i.there);
}

pub returns-in_default-clause-less : goal.returns-in_default-clause-less
returns-in_default-clause-less c = λ p h.
    let old = c.args.nodes.now.keys in
    let i = c.up.invariant.back p h in
    let there = same_key old c.up.nodes.keys i.path c.up.at c.up.invariant.keys i.there in
    let long = c.depth.ensures i.path there in
    let none = no_names i.path (at_root i.path (c.in_default.ensures.root i.path (same_key c.up.nodes.keys c.remove_at.new.nodes.keys i.path c.up.at c.remove_at.ensures.keys there))) in
    absurd (omega (arith, long, c.up-test.true, none))

pub returns-clause-less : goal.returns-clause-less
returns-clause-less c = λ p h.
    let old = c.args.nodes.now.keys in
    let i = c.up.invariant.back p h in
    let long = c.depth.ensures i.path (same_key old c.up.nodes.keys i.path c.up.at c.up.invariant.keys i.there) in
    back_all old c.args.nodes.now.values c.args.part c.args.depth c.args.transaction.0 p c.up.at c.up.nodes.values i (omega (arith, long, c.up-test.false))
