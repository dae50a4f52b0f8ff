-- The nodes are linked one by one.
use Rattle.std.proofs.Common.{◌≡◌, [], ◌<◌, length, get_or, take, replicate, refl, sym, ap, subst, ◌∙◌, arith}
use Rattle.std.proofs.lemmas.List.{take_more, length-replicate}
use Rattle.std.proofs.lemmas.Option.{slice_get-get_or}
use Rattle.cg_path_tree.specs.Chains.{link_in, no_key, AreChained}
use Rattle.cg_path_tree.proofs.Chaining.{chained-none, not_taken, all_none}
use Rattle.cg_path_tree.proofs.Listing.{take_all}
use Rattle.cg_path_tree.proofs.chains.grow.Goals as goal

pub loop-key-init : goal.loop-key-init
loop-key-init g c =
    let filled : c.in_ok-wider.wider.items ≡ replicate c.max.result no_key = c.in_ok-wider.ensures.items_if_clones_equal (λ y h. h) in
    record {
      same = λ k. refl;
      chained = subst (λ heads. AreChained [] heads (link_in c.args.nodes.now)) (sym filled) (chained-none (replicate c.max.result no_key) (link_in c.args.nodes.now) c.requires.chained.ends (all_none c.max.result));
      some = omega (arith, ap length filled, length-replicate c.max.result no_key, c.max.ensures);
    }

pub link-requires-clause-below : goal.link-requires-clause-below
link-requires-clause-below g c =
    let order = c.args.order.now in
    let i = c.loop-key.key-index in
    let key = get_or order i (record { 0 = 0 }) in
    (c.requires.chained.each key (i, slice_get-get_or order i (record { 0 = 0 }) c.loop-key-test.true)).below

pub loop-key-preserved : goal.loop-key-preserved
loop-key-preserved g c =
    let order = c.args.order.now in
    let i = c.loop-key.key-index in
    let key = get_or order i (record { 0 = 0 }) in
    let at = slice_get-get_or order i (record { 0 = 0 }) c.loop-key-test.true in
    record {
      same = λ k. c.link.ensures.same k ∙ c.loop-key.invariant.same k;
      chained = subst (λ ks. AreChained ks c.link.new.heads.items (link_in c.link.new.nodes)) (sym (take_more order i (record { 0 = 0 }) c.loop-key-test.true))
          (c.link.ensures.chained (take i order) c.loop-key.invariant.chained (not_taken order c.requires.once i key at));
      some = subst (λ n. 0 < n) (sym c.link.ensures.count) c.loop-key.invariant.some;
    }

pub returns-clause-chained : goal.returns-clause-chained
returns-clause-chained g c =
    subst (λ ks. AreChained ks c.loop-key.wider.items (link_in c.loop-key.nodes)) (take_all c.loop-key.key-index c.args.order.now c.loop-key-test.false) c.loop-key.invariant.chained
