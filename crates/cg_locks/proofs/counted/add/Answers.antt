-- Number after number; where there is no memory for one, those before it go again.
use Rattle.std.proofs.Common.{◌≡◌, take, refl, sym, ap, subst, ◌∙◌}
use Rattle.cg_locks.specs.Counts.{prefixes}
use Rattle.cg_locks.specs.HeldByPath.{AreCountsMore}
use Rattle.cg_locks.proofs.CountedNodes.{counts_undone}
use Rattle.cg_locks.proofs.CountedWalks.{added_next, added_none}
use Rattle.cg_locks.proofs.Keys.{same_key}
use Rattle.cg_locks.proofs.counted.add.Goals as goal

pub loop-index-init : goal.loop-index-init
loop-index-init c = record {
  keys = refl;
  added = λ p h. added_none c.args.nodes.now.keys c.args.nodes.now.values c.args.transaction.0 p c.args.key h;
}

pub loop-index-preserved : goal.loop-index-preserved
loop-index-preserved c = record {
  keys = c.in_default.ensures.keys ∙ c.loop-index.invariant.keys;
  added = λ p h.
      let old = c.args.nodes.now.keys in
      let keys = c.loop-index.nodes.keys in
      let i = c.loop-index.invariant.added p h in
      let there = c.climb-at.ensures i.path (same_key old keys i.path c.loop-index.at c.loop-index.invariant.keys i.there) in
      added_next old c.args.nodes.now.values c.args.transaction.0 p c.args.depths.now c.loop-index.index c.loop-index.at c.loop-index.nodes.values i c.loop-index-test.true c.climb-at.result
      (same_key keys old _ c.climb-at.result (sym c.loop-index.invariant.keys) there) c.add_at.new.nodes.values (c.in_default.ensures.ok _ there);
}

pub returns-in-Err-clause-err : goal.returns-in-Err-clause-err
returns-in-Err-clause-err c =
    let p = c.requires.0 in
    let h = c.requires.1 in
    let t = c.args.transaction.0 in
    let T = c.args.nodes.now.values in
    let same : c.add_at.new.nodes ≡ c.loop-index.nodes = c.in-Err.ensures.err in
    let i = c.loop-index.invariant.added p h in
    let front = prefixes p (take c.loop-index.index c.args.depths.now) in
    counts_undone t front T c.loop-index.nodes.values c.remove.new.nodes.values i.more
    (subst (λ M. AreCountsMore c.remove.new.nodes.values front t M) (ap (λ n. n.values) same) (c.remove.ensures.less p (same_key c.args.nodes.now.keys c.add_at.new.nodes.keys p c.args.key (ap (λ n. n.keys) same ∙ c.loop-index.invariant.keys) h)))
