-- What the group passes on is counted at its parent.
use Rattle.std.proofs.Common.{◌≡◌, ◌<◌, ◌^◌, Some, option_map, true, refl, ap, sym, subst, ◌∙◌, arith}
use Rattle.cg_maps.specs.FiniteMap.{get, len}
use Rattle.cg_name.specs.Path.{Path, is_parent}
use Rattle.cg_path_tree.specs.Nodes.{path_of}
use Rattle.cg_tree.specs.Entries.{entry_at, path_at, populated_by_of, with_passing}
use Rattle.cg_tree.specs.Passing.{control_of, CanPass}
use Rattle.cg_tree.proofs.Climbing.{at_own_path}
use Rattle.cg_tree.proofs.PassingOn.{all_counted, not_passing, room_to_pass, same_groups, same_sets}
use Rattle.cg_tree.proofs.Putting.{as_many}
use Rattle.cg_tree.proofs.Seeing.{same_seen}
use Rattle.cg_tree.proofs.counting.put.Goals as goal
use Rattle.cg_tree.proofs.counting.put.Goals.{After-pass_at_parent, After-put_group}

there : (c : After-put_group) → entry_at c.args.nodes.now c.args.key ≡ Some c.get.result.now
there c = c.get.ensures (path_at c.args.nodes.now c.args.key) (at_own_path c.args.nodes.now c.args.key c.laws.ensures.one_path c.requires.key)

-- where the key's node is
same_place : (c : After-put_group) → path_at c.put_group.new.nodes c.args.key ≡ path_at c.args.nodes.now c.args.key
same_place c = ap (λ k. path_of k c.args.key) c.put_group.ensures.keys

pub pass_at_parent-requires-clause-room : goal.pass_at_parent-requires-clause-room
pass_at_parent-requires-clause-room c q x right found =
    let many : len c.put_group.new.nodes.values ≡ c.len.result = as_many c.put_group.new.nodes c.laws-2.ensures.both ∙ sym c.len.ensures.value in
    let fits : c.len.result < 2 ^ 32 = omega arith in
    let room = room_to_pass c.args.nodes.now c.put_group.new.nodes (path_at c.args.nodes.now c.args.key) c.get.result.now (there (goal.at.pass_at_parent-requires-clause-room c).After-put_group) c.args.settings.now c.put_group.ensures.groups c.requires.counted c.put_group.ensures.passing c.len.result many fits q x (subst (λ p. is_parent q p ≡ true) (same_place (goal.at.pass_at_parent-requires-clause-room c).After-put_group) right) found in
    subst (λ u. CanPass u c.control_of-after.result x.passing) (sym c.control_of-before.ensures) (subst (λ v. CanPass (control_of c.get.result.now.settings) v x.passing) (sym c.control_of-after.ensures) room)

-- what is counted at the parent
counted_at : (c : After-pass_at_parent) (place : path_at c.put_group.new.nodes c.args.key ≡ path_at c.args.nodes.now c.args.key) (q : Path)
    → get c.pass_at_parent.new.nodes.values q ≡ option_map (with_passing (control_of c.get.result.now.settings) (control_of c.args.settings.now) (is_parent q (path_at c.args.nodes.now c.args.key))) (get c.put_group.new.nodes.values q)
counted_at c place q =
    c.pass_at_parent.ensures.values q
    ∙ (λ i. option_map (with_passing (c.control_of-before.ensures i) (c.control_of-after.ensures i) (is_parent q (place i))) (get c.put_group.new.nodes.values q))

pub returns-then-ne-clause-groups : goal.returns-then-ne-clause-groups
returns-then-ne-clause-groups c =
    same_groups c.args.nodes.now c.put_group.new.nodes (path_at c.args.nodes.now c.args.key) c.get.result.now (there (goal.at.returns-then-ne-clause-groups c).After-put_group) c.args.settings.now c.put_group.ensures.groups c.requires.counted c.put_group.ensures.passing c.put_group.ensures.counted c.pass_at_parent.new.nodes (counted_at c (same_place (goal.at.returns-then-ne-clause-groups c).After-put_group))
    ∙ c.put_group.ensures.groups

pub returns-then-ne-clause-counted : goal.returns-then-ne-clause-counted
returns-then-ne-clause-counted c =
    all_counted c.args.nodes.now c.put_group.new.nodes (path_at c.args.nodes.now c.args.key) c.get.result.now (there (goal.at.returns-then-ne-clause-counted c).After-put_group) c.args.settings.now c.put_group.ensures.groups c.requires.counted c.put_group.ensures.passing c.put_group.ensures.counted c.pass_at_parent.new.nodes (counted_at c (same_place (goal.at.returns-then-ne-clause-counted c).After-put_group))

pub returns-then-ne-clause-held : goal.returns-then-ne-clause-held
returns-then-ne-clause-held c =
    same_seen populated_by_of c.pass_at_parent.new.nodes.values c.put_group.new.nodes.values (λ q. with_passing c.control_of-before.result c.control_of-after.result (is_parent q (path_at c.put_group.new.nodes c.args.key))) (λ q x. refl) c.pass_at_parent.ensures.values
    ∙ c.put_group.ensures.held

pub returns-else-ne-clause-counted : goal.returns-else-ne-clause-counted
returns-else-ne-clause-counted c =
    let alike : control_of c.get.result.now.settings ≡ control_of c.args.settings.now =
    sym c.control_of-before.ensures ∙ same_sets c.control_of-before.result c.control_of-after.result (sym c.ne.ensures ∙ c.if-ne.false) ∙ c.control_of-after.ensures in
    all_counted c.args.nodes.now c.put_group.new.nodes (path_at c.args.nodes.now c.args.key) c.get.result.now (there (goal.at.returns-else-ne-clause-counted c).After-put_group) c.args.settings.now c.put_group.ensures.groups c.requires.counted c.put_group.ensures.passing c.put_group.ensures.counted c.put_group.new.nodes
    (λ q. not_passing (control_of c.get.result.now.settings) (control_of c.args.settings.now) alike (is_parent q (path_at c.args.nodes.now c.args.key)) (get c.put_group.new.nodes.values q))
