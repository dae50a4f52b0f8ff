-- One more at each node, up to the first where there was one before; where there is no memory, one less again at those below.
use Rattle.std.proofs.Common.{◌≡◌, Some, sym, ap, subst, ◌∙◌, refl, arith}
use Rattle.cg_maps.specs.FiniteMap.{get}
use Rattle.cg_name.specs.Path.{Path}
use Rattle.cg_path_tree.specs.Nodes.{parent_path}
use Rattle.cg_locks.specs.HeldByPath.{HasBeyond, IsOneMoreBeyond}
use Rattle.cg_locks.proofs.Keys.{above_of_key, at_root, same_key, shorter, IsAbove}
use Rattle.cg_locks.proofs.Unwinding.{more_all, more_held, more_next, more_none, more_stop, more_undone}
use Rattle.cg_locks.proofs.upward.add_up.Goals as goal

pub up-init : goal.up-init
up-init c = record {
  keys = refl;
  more = λ p h. more_none c.args.nodes.now.keys c.args.nodes.now.values c.args.part c.args.transaction.0 p c.args.key h;
}

pub remove_beyond-requires-clause-held : goal.remove_beyond-requires-clause-held
remove_beyond-requires-clause-held c = λ p h.
    let old = c.args.nodes.now.keys in
    let s = c.args.part in
    let t = c.args.transaction.0 in
    let same : c.add_at.new.nodes ≡ c.up.nodes = c.in_default.ensures.err in
    let i = c.up.invariant.more p (same_key c.add_at.new.nodes.keys old p c.args.key (sym (ap (λ n. n.keys) same ∙ c.up.invariant.keys)) h) in
    let there = same_key old c.add_at.new.nodes.keys i.path c.up.at (ap (λ n. n.keys) same ∙ c.up.invariant.keys) i.there in
    subst (λ M. HasBeyond M s p c.depth-depth.result t) (ap (λ n. n.values) (sym same))
    (more_held old c.args.nodes.now.values s t p c.up.at c.up.nodes.values i c.depth-depth.result (c.depth-depth.ensures i.path there))

pub returns-in_default-clause-err : goal.returns-in_default-clause-err
returns-in_default-clause-err c =
    let p = c.requires.0 in
    let h = c.requires.1 in
    let old = c.args.nodes.now.keys in
    let s = c.args.part in
    let t = c.args.transaction.0 in
    let same : c.add_at.new.nodes ≡ c.up.nodes = c.in_default.ensures.err in
    let keys : c.add_at.new.nodes.keys ≡ old = ap (λ n. n.keys) same ∙ c.up.invariant.keys in
    let i = c.up.invariant.more p h in
    let there = same_key old c.add_at.new.nodes.keys i.path c.up.at keys i.there in
    more_undone old c.args.nodes.now.values s t p c.up.at c.up.nodes.values i c.depth-depth.result (c.depth-depth.ensures i.path there) c.remove_beyond.new.nodes.values
    (subst (λ M. IsOneMoreBeyond c.remove_beyond.new.nodes.values s p c.depth-depth.result t M) (ap (λ n. n.values) same)
    (c.remove_beyond.ensures.less p (same_key old c.add_at.new.nodes.keys p c.args.key keys h)))

pub returns-then-count-gt1-clause-ok : goal.returns-then-count-gt1-clause-ok
returns-then-count-gt1-clause-ok c = λ p h.
    let old = c.args.nodes.now.keys in
    let i = c.up.invariant.more p h in
    let there = same_key old c.up.nodes.keys i.path c.up.at c.up.invariant.keys i.there in
    let many = c.in-Ok.ensures.count i.path there in
    more_stop old c.args.nodes.now.values c.args.part c.args.transaction.0 p c.up.at c.up.nodes.values i c.add_at.new.nodes.values (c.in-Ok.ensures.ok i.path there) (omega (arith, c.if-count-gt1.true, many))

-- the keys stay, and the node's parent is above it
up_from : (c : goal.In-Some) → (p : Path) → get c.args.nodes.now.keys p ≡ Some c.up.at → IsAbove c.args.nodes.now.keys c.up.at c.in-Some.parent p
up_from c p h =
    let old = c.args.nodes.now.keys in
    let keys = c.add_at.new.nodes.keys in
    let same : keys ≡ old = c.in-Ok.ensures.keys ∙ c.up.invariant.keys in
    let above = above_of_key keys c.up.at c.in-Some.parent (λ q k. c.in-Some.ensures.root q k) (λ q k r. c.in-Some.ensures.value q k r) p (same_key old keys p c.up.at same h) in
    record { root = above.root; there = same_key keys old (parent_path p) c.in-Some.parent (sym same) above.there }

pub up-smaller : goal.up-smaller
up-smaller c =
    let i = c.up.invariant.more c.requires.0 c.requires.1 in
    shorter c.args.nodes.now.keys c.up.at c.in-Some.parent c.laws.ensures.one_path i.path i.there (up_from c i.path i.there)

pub up-preserved : goal.up-preserved
up-preserved c = record {
  keys = c.in-Ok.ensures.keys ∙ c.up.invariant.keys;
  more = λ p h.
      let old = c.args.nodes.now.keys in
      let i = c.up.invariant.more p h in
      let there = same_key old c.up.nodes.keys i.path c.up.at c.up.invariant.keys i.there in
      let many = c.in-Ok.ensures.count i.path there in
      more_next old c.args.nodes.now.values c.args.part c.args.transaction.0 p c.up.at c.up.nodes.values i c.add_at.new.nodes.values (c.in-Ok.ensures.ok i.path there)
      (omega (arith, c.if-count-gt1.false, many)) c.in-Some.parent (up_from c i.path i.there);
}

pub returns-in_default-parent-clause-ok : goal.returns-in_default-parent-clause-ok
returns-in_default-parent-clause-ok c = λ p h.
    let old = c.args.nodes.now.keys in
    let i = c.up.invariant.more p h in
    let there = same_key old c.up.nodes.keys i.path c.up.at c.up.invariant.keys i.there in
    more_all old c.args.nodes.now.values c.args.part c.args.transaction.0 p c.up.at c.up.nodes.values i c.add_at.new.nodes.values (c.in-Ok.ensures.ok i.path there)
    (at_root i.path (c.in_default-parent.ensures.root i.path (same_key c.up.nodes.keys c.add_at.new.nodes.keys i.path c.up.at c.in-Ok.ensures.keys there)))
