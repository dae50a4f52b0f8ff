-- One less at each node, up to the first where one is left.
use Rattle.std.proofs.Common.{◌≡◌, Some, sym, subst, ◌∙◌, refl, arith}
use Rattle.cg_maps.specs.FiniteMap.{get}
use Rattle.cg_name.specs.Path.{Path}
use Rattle.cg_path_tree.specs.Nodes.{parent_path}
use Rattle.cg_locks.specs.HeldByPath.{HasMoreThanBranches}
use Rattle.cg_locks.proofs.Climbing.{less_all, less_next, less_none, less_stop}
use Rattle.cg_locks.proofs.Keys.{above_of_key, at_root, same_key, shorter, IsAbove}
use Rattle.cg_locks.proofs.Walks.{one_more_at, still_filled}
use Rattle.cg_locks.proofs.upward.remove_up.Goals as goal

pub up-init : goal.up-init
up-init c = record {
  keys = refl;
  branches = c.requires.branches;
  less = λ p h. less_none c.args.nodes.now.keys c.args.nodes.now.values c.args.part c.args.transaction.0 p c.args.key h (c.requires.more p h);
}

pub remove_at-left-requires-clause-held : goal.remove_at-left-requires-clause-held
remove_at-left-requires-clause-held c = λ q k.
    let i = c.up.invariant.less c.requires.there.0 c.requires.there.1 in
    let there = same_key c.up.nodes.keys c.args.nodes.now.keys q c.up.at (sym c.up.invariant.keys) k in
    let more = subst (HasMoreThanBranches c.up.nodes.values c.args.part c.args.transaction.0) (c.laws.ensures.one_path i.path q c.up.at i.there there) i.more in
    omega (arith, more)

-- the keys stay, and the node's parent is above it
up_from : (c : goal.In-Some) → (p : Path) → get c.args.nodes.now.keys p ≡ Some c.up.at → IsAbove c.args.nodes.now.keys c.up.at c.in-Some.parent p
up_from c p h =
    let old = c.args.nodes.now.keys in
    let keys = c.remove_at-left.new.nodes.keys in
    let same : keys ≡ old = c.remove_at-left.ensures.keys ∙ c.up.invariant.keys in
    let above = above_of_key keys c.up.at c.in-Some.parent (λ q k. c.in-Some.ensures.root q k) (λ q k r. c.in-Some.ensures.value q k r) p (same_key old keys p c.up.at same h) in
    record { root = above.root; there = same_key keys old (parent_path p) c.in-Some.parent (sym same) above.there }

pub up-smaller : goal.up-smaller
up-smaller c =
    let keys = c.args.nodes.now.keys in
    let i = c.up.invariant.less c.requires.there.0 c.requires.there.1 in
    shorter keys c.up.at c.in-Some.parent c.laws.ensures.one_path i.path i.there (up_from c i.path i.there)

pub up-preserved : goal.up-preserved
up-preserved c =
    let M = c.up.nodes.values in
    let N = c.remove_at-left.new.nodes.values in
    let t = c.args.transaction.0 in
    let first = c.up.invariant.less c.requires.there.0 c.requires.there.1 in
    let less_first = c.remove_at-left.ensures.less first.path (same_key c.args.nodes.now.keys c.up.nodes.keys first.path c.up.at c.up.invariant.keys first.there) in
    record {
      keys = c.remove_at-left.ensures.keys ∙ c.up.invariant.keys;
      branches = still_filled N M c.args.part first.path t less_first c.up.invariant.branches first.more;
      less = λ p h.
          let i = c.up.invariant.less p h in
          let there = same_key c.args.nodes.now.keys c.up.nodes.keys i.path c.up.at c.up.invariant.keys i.there in
          let less = c.remove_at-left.ensures.less i.path there in
          let one = one_more_at N M c.args.part i.path t less in
          let left = c.remove_at-left.ensures.left i.path there in
          less_next c.args.nodes.now.keys c.args.nodes.now.values c.args.part t p c.up.at M N i less c.up.invariant.branches c.in-Some.parent (up_from c i.path i.there) (omega (arith, c.if-left-gt0.false, left, one));
    }

pub returns-then-left-gt0-clause-less : goal.returns-then-left-gt0-clause-less
returns-then-left-gt0-clause-less c = λ p h.
    let M = c.up.nodes.values in
    let N = c.remove_at-left.new.nodes.values in
    let t = c.args.transaction.0 in
    let i = c.up.invariant.less p h in
    let there = same_key c.args.nodes.now.keys c.up.nodes.keys i.path c.up.at c.up.invariant.keys i.there in
    let less = c.remove_at-left.ensures.less i.path there in
    let one = one_more_at N M c.args.part i.path t less in
    let left = c.remove_at-left.ensures.left i.path there in
    less_stop c.args.nodes.now.keys c.args.nodes.now.values c.args.part t p c.up.at M N i less (omega (arith, c.if-left-gt0.true, left, one))

pub returns-in_default-clause-less : goal.returns-in_default-clause-less
returns-in_default-clause-less c = λ p h.
    let M = c.up.nodes.values in
    let N = c.remove_at-left.new.nodes.values in
    let i = c.up.invariant.less p h in
    let there = same_key c.args.nodes.now.keys c.up.nodes.keys i.path c.up.at c.up.invariant.keys i.there in
    less_all c.args.nodes.now.keys c.args.nodes.now.values c.args.part c.args.transaction.0 p c.up.at M N i (c.remove_at-left.ensures.less i.path there)
    (at_root i.path (c.in_default.ensures.root i.path (same_key c.up.nodes.keys c.remove_at-left.new.nodes.keys i.path c.up.at c.remove_at-left.ensures.keys there)))
