-- The entry that is written is that of the key's path, and what is above is counted.
use Rattle.std.proofs.Common.{◌≡◌, ◌<◌, ◌^◌, Some, option_map, is_some, true, not, refl, sym, ap, subst, ◌∙◌, arith}
use Rattle.cg_maps.specs.FiniteMap.{get, len}
use Rattle.cg_name.specs.Path.{is_above, is_parent}
use Rattle.cg_path_tree.specs.Nodes.{path_of, IsKey}
use Rattle.cg_tree.specs.Entries.{entry_at, groups_in, held_in, passing_in, passing_of, path_at, populated_by_of, with_below, with_right_below, AreCountedBelow}
use Rattle.cg_tree.proofs.Climbing.{at_own_path}
use Rattle.cg_tree.proofs.Putting.{as_many, counted_alike, counted_anew, counted_groups, differ, agree, held_at, room_below, room_right_below, written_groups}
use Rattle.cg_tree.proofs.Seeing.{same_seen, seen_in_place}
use Rattle.cg_tree.proofs.counting.put_group.Goals as goal

pub count_at_parent-requires-clause-key : goal.count_at_parent-requires-clause-key
count_at_parent-requires-clause-key c =
    let key = at_own_path c.args.nodes.now c.args.key c.laws.ensures.one_path c.requires.key in
    let e = c.get.result.now in
    let there : entry_at c.args.nodes.now c.args.key ≡ Some e = c.get.ensures (path_at c.args.nodes.now c.args.key) key in
    let wrote = c.swap_settings.ensures.nodes e there in
    subst (λ k. IsKey k c.args.key) (sym (ap (λ n. n.keys) wrote)) c.requires.key

pub count_at_parent-requires-clause-room : goal.count_at_parent-requires-clause-room
count_at_parent-requires-clause-room c q x parent found =
    let key = at_own_path c.args.nodes.now c.args.key c.laws.ensures.one_path c.requires.key in
    let e = c.get.result.now in
    let there : entry_at c.args.nodes.now c.args.key ≡ Some e = c.get.ensures (path_at c.args.nodes.now c.args.key) key in
    let wrote = c.swap_settings.ensures.nodes e there in
    let new : is_some c.args.settings.now ≡ c.is_some-comes.result = sym c.is_some-comes.ensures in
    let old : is_some e.settings ≡ not c.is_some-comes.result = sym c.is_some-was.ensures ∙ differ c.is_some-comes.result c.is_some-was.result c.if-comes-was.true in
    let many : len c.args.nodes.now.values ≡ c.len.result = as_many c.args.nodes.now c.laws.ensures.both ∙ sym c.len.ensures.value in
    let fits : c.len.result < 2 ^ 32 = omega arith in
    room_right_below c.args.nodes.now c.args.key e there c.args.settings.now c.requires.counted c.is_some-comes.result new old c.len.result many fits q x
    (subst (λ n. is_parent q (path_at n c.args.key) ≡ true) wrote parent) (subst (λ n. get n.values q ≡ Some x) wrote found)

pub count_above-requires-clause-key : goal.count_above-requires-clause-key
count_above-requires-clause-key c =
    let key = at_own_path c.args.nodes.now c.args.key c.laws.ensures.one_path c.requires.key in
    let e = c.get.result.now in
    let there : entry_at c.args.nodes.now c.args.key ≡ Some e = c.get.ensures (path_at c.args.nodes.now c.args.key) key in
    let wrote = c.swap_settings.ensures.nodes e there in
    subst (λ k. IsKey k c.args.key) (sym (c.count_at_parent.ensures.keys ∙ ap (λ n. n.keys) wrote)) c.requires.key

pub count_above-requires-clause-room : goal.count_above-requires-clause-room
count_above-requires-clause-room c q x above found =
    let key = at_own_path c.args.nodes.now c.args.key c.laws.ensures.one_path c.requires.key in
    let e = c.get.result.now in
    let there : entry_at c.args.nodes.now c.args.key ≡ Some e = c.get.ensures (path_at c.args.nodes.now c.args.key) key in
    let wrote = c.swap_settings.ensures.nodes e there in
    let new : is_some c.args.settings.now ≡ c.is_some-comes.result = sym c.is_some-comes.ensures in
    let old : is_some e.settings ≡ not c.is_some-comes.result = sym c.is_some-was.ensures ∙ differ c.is_some-comes.result c.is_some-was.result c.if-comes-was.true in
    let many : len c.args.nodes.now.values ≡ c.len.result = as_many c.args.nodes.now c.laws.ensures.both ∙ sym c.len.ensures.value in
    let fits : c.len.result < 2 ^ 32 = omega arith in
    room_below c.args.nodes.now c.args.key e there c.args.settings.now c.requires.counted c.is_some-comes.result new old c.count_at_parent.new.nodes (λ r. subst (λ n. get c.count_at_parent.new.nodes.values r ≡ option_map (with_right_below c.is_some-comes.result (is_parent r (path_at n c.args.key))) (get n.values r)) wrote (c.count_at_parent.ensures.values r)) c.len.result many fits q x
    (subst (λ k. is_above q (path_of k c.args.key) ≡ true) (c.count_at_parent.ensures.keys ∙ ap (λ n. n.keys) wrote) above) found

pub returns-then-comes-was-clause-keys : goal.returns-then-comes-was-clause-keys
returns-then-comes-was-clause-keys c =
    let key = at_own_path c.args.nodes.now c.args.key c.laws.ensures.one_path c.requires.key in
    let e = c.get.result.now in
    let there : entry_at c.args.nodes.now c.args.key ≡ Some e = c.get.ensures (path_at c.args.nodes.now c.args.key) key in
    let wrote = c.swap_settings.ensures.nodes e there in
    c.count_above.ensures.keys ∙ c.count_at_parent.ensures.keys ∙ ap (λ n. n.keys) wrote

pub returns-then-comes-was-clause-groups : goal.returns-then-comes-was-clause-groups
returns-then-comes-was-clause-groups c =
    let key = at_own_path c.args.nodes.now c.args.key c.laws.ensures.one_path c.requires.key in
    let e = c.get.result.now in
    let there : entry_at c.args.nodes.now c.args.key ≡ Some e = c.get.ensures (path_at c.args.nodes.now c.args.key) key in
    let wrote = c.swap_settings.ensures.nodes e there in
    let new : is_some c.args.settings.now ≡ c.is_some-comes.result = sym c.is_some-comes.ensures in
    let old : is_some e.settings ≡ not c.is_some-comes.result = sym c.is_some-was.ensures ∙ differ c.is_some-comes.result c.is_some-was.result c.if-comes-was.true in
    counted_groups c.args.nodes.now c.args.key e there c.args.settings.now c.requires.counted c.is_some-comes.result new old c.count_at_parent.new.nodes (λ r. subst (λ n. get c.count_at_parent.new.nodes.values r ≡ option_map (with_right_below c.is_some-comes.result (is_parent r (path_at n c.args.key))) (get n.values r)) wrote (c.count_at_parent.ensures.values r)) c.count_above.new.nodes
    (λ r. subst (λ k. get c.count_above.new.nodes.values r ≡ option_map (with_below c.is_some-comes.result (is_above r (path_of k c.args.key))) (get c.count_at_parent.new.nodes.values r)) (c.count_at_parent.ensures.keys ∙ ap (λ n. n.keys) wrote) (c.count_above.ensures.values r))

pub returns-then-comes-was-clause-counted : goal.returns-then-comes-was-clause-counted
returns-then-comes-was-clause-counted c =
    let key = at_own_path c.args.nodes.now c.args.key c.laws.ensures.one_path c.requires.key in
    let e = c.get.result.now in
    let there : entry_at c.args.nodes.now c.args.key ≡ Some e = c.get.ensures (path_at c.args.nodes.now c.args.key) key in
    let wrote = c.swap_settings.ensures.nodes e there in
    let new : is_some c.args.settings.now ≡ c.is_some-comes.result = sym c.is_some-comes.ensures in
    let old : is_some e.settings ≡ not c.is_some-comes.result = sym c.is_some-was.ensures ∙ differ c.is_some-comes.result c.is_some-was.result c.if-comes-was.true in
    counted_anew c.args.nodes.now c.args.key e there c.args.settings.now c.requires.counted c.is_some-comes.result new old c.count_at_parent.new.nodes (λ r. subst (λ n. get c.count_at_parent.new.nodes.values r ≡ option_map (with_right_below c.is_some-comes.result (is_parent r (path_at n c.args.key))) (get n.values r)) wrote (c.count_at_parent.ensures.values r)) c.count_above.new.nodes
    (λ r. subst (λ k. get c.count_above.new.nodes.values r ≡ option_map (with_below c.is_some-comes.result (is_above r (path_of k c.args.key))) (get c.count_at_parent.new.nodes.values r)) (c.count_at_parent.ensures.keys ∙ ap (λ n. n.keys) wrote) (c.count_above.ensures.values r))

pub returns-else-comes-was-clause-keys : goal.returns-else-comes-was-clause-keys
returns-else-comes-was-clause-keys c =
    let key = at_own_path c.args.nodes.now c.args.key c.laws.ensures.one_path c.requires.key in
    let e = c.get.result.now in
    let there : entry_at c.args.nodes.now c.args.key ≡ Some e = c.get.ensures (path_at c.args.nodes.now c.args.key) key in
    let wrote = c.swap_settings.ensures.nodes e there in
    ap (λ n. n.keys) wrote

pub returns-else-comes-was-clause-groups : goal.returns-else-comes-was-clause-groups
returns-else-comes-was-clause-groups c =
    let key = at_own_path c.args.nodes.now c.args.key c.laws.ensures.one_path c.requires.key in
    let e = c.get.result.now in
    let there : entry_at c.args.nodes.now c.args.key ≡ Some e = c.get.ensures (path_at c.args.nodes.now c.args.key) key in
    let wrote = c.swap_settings.ensures.nodes e there in
    ap (λ n. groups_in n.values) wrote ∙ written_groups c.args.nodes.now c.args.key e there c.args.settings.now c.requires.counted

pub returns-else-comes-was-clause-counted : goal.returns-else-comes-was-clause-counted
returns-else-comes-was-clause-counted c =
    let key = at_own_path c.args.nodes.now c.args.key c.laws.ensures.one_path c.requires.key in
    let e = c.get.result.now in
    let there : entry_at c.args.nodes.now c.args.key ≡ Some e = c.get.ensures (path_at c.args.nodes.now c.args.key) key in
    let wrote = c.swap_settings.ensures.nodes e there in
    subst (λ n. AreCountedBelow n.values) (sym wrote)
    (counted_alike c.args.nodes.now c.args.key e there c.args.settings.now c.requires.counted (sym c.is_some-comes.ensures ∙ agree c.is_some-comes.result c.is_some-was.result c.if-comes-was.false ∙ c.is_some-was.ensures))

pub returns-then-comes-was-clause-held : goal.returns-then-comes-was-clause-held
returns-then-comes-was-clause-held c =
    let key = at_own_path c.args.nodes.now c.args.key c.laws.ensures.one_path c.requires.key in
    let e = c.get.result.now in
    let there : entry_at c.args.nodes.now c.args.key ≡ Some e = c.get.ensures (path_at c.args.nodes.now c.args.key) key in
    let wrote = c.swap_settings.ensures.nodes e there in
    same_seen populated_by_of c.count_above.new.nodes.values c.count_at_parent.new.nodes.values _ (λ q e. refl) c.count_above.ensures.values
    ∙ same_seen populated_by_of c.count_at_parent.new.nodes.values c.swap_settings.new.nodes.values (λ q. with_right_below c.is_some-comes.result (is_parent q (path_at c.swap_settings.new.nodes c.args.key))) (λ q e. refl) c.count_at_parent.ensures.values
    ∙ ap (λ n. held_in n.values) wrote
    ∙ seen_in_place populated_by_of c.args.nodes.now.values (path_at c.args.nodes.now c.args.key) e there (record e { settings = c.args.settings.now }) refl

pub returns-else-comes-was-clause-held : goal.returns-else-comes-was-clause-held
returns-else-comes-was-clause-held c =
    let key = at_own_path c.args.nodes.now c.args.key c.laws.ensures.one_path c.requires.key in
    let e = c.get.result.now in
    let there : entry_at c.args.nodes.now c.args.key ≡ Some e = c.get.ensures (path_at c.args.nodes.now c.args.key) key in
    let wrote = c.swap_settings.ensures.nodes e there in
    ap (λ n. held_in n.values) wrote
    ∙ seen_in_place populated_by_of c.args.nodes.now.values (path_at c.args.nodes.now c.args.key) e there (record e { settings = c.args.settings.now }) refl

pub returns-then-comes-was-clause-passing : goal.returns-then-comes-was-clause-passing
returns-then-comes-was-clause-passing c =
    let key = at_own_path c.args.nodes.now c.args.key c.laws.ensures.one_path c.requires.key in
    let e = c.get.result.now in
    let there : entry_at c.args.nodes.now c.args.key ≡ Some e = c.get.ensures (path_at c.args.nodes.now c.args.key) key in
    let wrote = c.swap_settings.ensures.nodes e there in
    same_seen passing_of c.count_above.new.nodes.values c.count_at_parent.new.nodes.values _ (λ q e. refl) c.count_above.ensures.values
    ∙ same_seen passing_of c.count_at_parent.new.nodes.values c.swap_settings.new.nodes.values (λ q. with_right_below c.is_some-comes.result (is_parent q (path_at c.swap_settings.new.nodes c.args.key))) (λ q e. refl) c.count_at_parent.ensures.values
    ∙ ap (λ n. passing_in n.values) wrote
    ∙ seen_in_place passing_of c.args.nodes.now.values (path_at c.args.nodes.now c.args.key) e there (record e { settings = c.args.settings.now }) refl

pub returns-else-comes-was-clause-passing : goal.returns-else-comes-was-clause-passing
returns-else-comes-was-clause-passing c =
    let key = at_own_path c.args.nodes.now c.args.key c.laws.ensures.one_path c.requires.key in
    let e = c.get.result.now in
    let there : entry_at c.args.nodes.now c.args.key ≡ Some e = c.get.ensures (path_at c.args.nodes.now c.args.key) key in
    let wrote = c.swap_settings.ensures.nodes e there in
    ap (λ n. passing_in n.values) wrote
    ∙ seen_in_place passing_of c.args.nodes.now.values (path_at c.args.nodes.now c.args.key) e there (record e { settings = c.args.settings.now }) refl

pub returns-then-comes-was-clause-before : goal.returns-then-comes-was-clause-before
returns-then-comes-was-clause-before c =
    let key = at_own_path c.args.nodes.now c.args.key c.laws.ensures.one_path c.requires.key in
    let e = c.get.result.now in
    let there : entry_at c.args.nodes.now c.args.key ≡ Some e = c.get.ensures (path_at c.args.nodes.now c.args.key) key in
    c.swap_settings.ensures.before e there ∙ sym (held_at c.args.nodes.now.values (path_at c.args.nodes.now c.args.key) e there)

pub returns-else-comes-was-clause-before : goal.returns-else-comes-was-clause-before
returns-else-comes-was-clause-before c =
    let key = at_own_path c.args.nodes.now c.args.key c.laws.ensures.one_path c.requires.key in
    let e = c.get.result.now in
    let there : entry_at c.args.nodes.now c.args.key ≡ Some e = c.get.ensures (path_at c.args.nodes.now c.args.key) key in
    c.swap_settings.ensures.before e there ∙ sym (held_at c.args.nodes.now.values (path_at c.args.nodes.now c.args.key) e there)
