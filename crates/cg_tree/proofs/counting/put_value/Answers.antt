-- The value is written in its place, and what the group passes on is counted at its parent.
use Rattle.std.proofs.Common.{◌≡◌, ◌<◌, ◌^◌, true, Some, option_map, ap, sym, subst, ◌∙◌, arith}
use Rattle.std.specs.Option.{option_flatten}
use Rattle.cg_maps.specs.FiniteMap.{get, len}
use Rattle.cg_name.specs.Path.{Path, is_parent}
use Rattle.cg_path_tree.specs.Nodes.{Nodes, IsKey}
use Rattle.cg_tree.specs.declared.entry.Entry.{Entry}
use Rattle.cg_tree.specs.Entries.{entry_at, groups_in, held_in, path_at, with_passing, AreCounted}
use Rattle.cg_tree.specs.NewValue.{value_there, with_new}
use Rattle.cg_tree.specs.Passing.{control_of, CanPass}
use Rattle.cg_tree.proofs.Climbing.{at_own_path}
use Rattle.cg_tree.proofs.PassingOn.{same_sets}
use Rattle.cg_tree.proofs.Putting.{as_many}
use Rattle.cg_tree.proofs.Writing.{changed, counted_as_before, counted_passing, group_there, groups_changed, groups_passing, held_alike, held_passing, none_changed, room_at_parent}
use Rattle.cg_tree.proofs.counting.put_value.Goals as goal
use Rattle.cg_tree.proofs.counting.put_value.Goals.{After-get, After-write_value-was, After-pass_at_parent}

first_there : (c : After-get) → entry_at c.args.nodes.now c.args.key ≡ Some c.get.result.now
first_there c = c.get.ensures (path_at c.args.nodes.now c.args.key) (at_own_path c.args.nodes.now c.args.key c.laws.ensures.one_path c.requires.key)

there : (c : After-write_value-was) → entry_at c.args.nodes.now c.args.key ≡ Some c.get.result.now
there c = c.get.ensures (path_at c.args.nodes.now c.args.key) (at_own_path c.args.nodes.now c.args.key c.laws.ensures.one_path c.requires.key)

-- the nodes with the value
abbrev made : After-write_value-was → Nodes Entry
made c = changed c.args.nodes.now c.args.key c.get.result.now (there c) c.args.value c.requires.counted

wrote : (c : After-write_value-was) → c.write_value-was.new.nodes ≡ made c
wrote c = c.write_value-was.ensures.nodes c.get.result.now (there c)

had : (c : After-write_value-was) → c.write_value-was.result ≡ option_map (value_there c.args.value) (option_flatten (get (groups_in c.args.nodes.now.values) (path_at c.args.nodes.now c.args.key)))
had c =
    c.write_value-was.ensures.before c.get.result.now (there c)
    ∙ ap (option_map (value_there c.args.value)) (group_there c.args.nodes.now c.args.key c.get.result.now (there c) c.args.value c.requires.counted)

pub returns-in_default-clause-before : goal.returns-in_default-clause-before
returns-in_default-clause-before c =
    ap (option_map (value_there c.args.value)) (sym c.in_default.is ∙ group_there c.args.nodes.now c.args.key c.get.result.now (first_there (goal.at.returns-in_default-clause-before c).After-get) c.args.value c.requires.counted)

pub returns-in_default-clause-groups : goal.returns-in_default-clause-groups
returns-in_default-clause-groups c =
    none_changed c.args.nodes.now c.args.key c.get.result.now (first_there (goal.at.returns-in_default-clause-groups c).After-get) c.args.value c.requires.counted c.in_default.is

pub pass_at_parent-requires-clause-key : goal.pass_at_parent-requires-clause-key
pass_at_parent-requires-clause-key c =
    subst (λ n. IsKey n.keys c.args.key) (sym (wrote (goal.at.pass_at_parent-requires-clause-key c).After-write_value-was)) c.requires.key

pub pass_at_parent-requires-clause-room : goal.pass_at_parent-requires-clause-room
pass_at_parent-requires-clause-room c q x right held =
    let w = wrote (goal.at.pass_at_parent-requires-clause-room c).After-write_value-was in
    let many : len c.write_value-was.new.nodes.values ≡ c.len.result = as_many c.write_value-was.new.nodes c.laws-2.ensures.both ∙ sym c.len.ensures.value in
    let fits : c.len.result < 2 ^ 32 = omega arith in
    let room = room_at_parent c.args.nodes.now c.args.key c.get.result.now (there (goal.at.pass_at_parent-requires-clause-room c).After-write_value-was) c.args.value c.requires.counted c.len.result (ap (λ n. len n.values) (sym w) ∙ many) fits q x
    (subst (λ n. is_parent q (path_at n c.args.key) ≡ true) w right) (subst (λ n. get n.values q ≡ Some x) w held) in
    subst (λ u. CanPass u c.control-after.result x.passing) (ap control_of c.in-Some.is ∙ sym c.control-before.ensures)
    (subst (λ v. CanPass (control_of c.get.result.now.settings) v x.passing) (ap (λ u. control_of (with_new c.args.value u)) c.in-Some.is ∙ sym c.control-after.ensures) room)

-- what is counted at the parent
counted_at : (c : After-pass_at_parent) (w : c.write_value-was.new.nodes ≡ changed c.args.nodes.now c.args.key c.get.result.now (c.get.ensures (path_at c.args.nodes.now c.args.key) (at_own_path c.args.nodes.now c.args.key c.laws.ensures.one_path c.requires.key)) c.args.value c.requires.counted) (q : Path)
    → get c.pass_at_parent.new.nodes.values q ≡ option_map (with_passing (control_of c.get.result.now.settings) (control_of (with_new c.args.value c.get.result.now.settings)) (is_parent q (path_at c.args.nodes.now c.args.key))) (get (changed c.args.nodes.now c.args.key c.get.result.now (c.get.ensures (path_at c.args.nodes.now c.args.key) (at_own_path c.args.nodes.now c.args.key c.laws.ensures.one_path c.requires.key)) c.args.value c.requires.counted).values q)
counted_at c w q =
    c.pass_at_parent.ensures.values q
    ∙ (λ i. option_map (with_passing ((c.control-before.ensures ∙ ap control_of (sym c.in-Some.is)) i) ((c.control-after.ensures ∙ ap (λ u. control_of (with_new c.args.value u)) (sym c.in-Some.is)) i) (is_parent q (path_at (w i) c.args.key))) (get (w i).values q))

pub returns-then-ne-clause-before : goal.returns-then-ne-clause-before
returns-then-ne-clause-before c = had (goal.at.returns-then-ne-clause-before c).After-write_value-was

pub returns-then-ne-clause-keys : goal.returns-then-ne-clause-keys
returns-then-ne-clause-keys c = c.pass_at_parent.ensures.keys ∙ ap (λ n. n.keys) (wrote (goal.at.returns-then-ne-clause-keys c).After-write_value-was)

pub returns-then-ne-clause-groups : goal.returns-then-ne-clause-groups
returns-then-ne-clause-groups c =
    let at = (goal.at.returns-then-ne-clause-groups c).After-write_value-was in
    groups_passing c.args.nodes.now c.args.key c.get.result.now (there at) c.args.value c.requires.counted c.pass_at_parent.new.nodes (counted_at (goal.at.returns-then-ne-clause-groups c).After-pass_at_parent (wrote at))

pub returns-then-ne-clause-counted : goal.returns-then-ne-clause-counted
returns-then-ne-clause-counted c =
    let at = (goal.at.returns-then-ne-clause-counted c).After-write_value-was in
    counted_passing c.args.nodes.now c.args.key c.get.result.now (there at) c.args.value c.requires.counted c.pass_at_parent.new.nodes (counted_at (goal.at.returns-then-ne-clause-counted c).After-pass_at_parent (wrote at))

pub returns-then-ne-clause-held : goal.returns-then-ne-clause-held
returns-then-ne-clause-held c =
    let at = (goal.at.returns-then-ne-clause-held c).After-write_value-was in
    held_passing c.args.nodes.now c.args.key c.get.result.now (there at) c.args.value c.requires.counted c.pass_at_parent.new.nodes (counted_at (goal.at.returns-then-ne-clause-held c).After-pass_at_parent (wrote at))

pub returns-else-ne-clause-before : goal.returns-else-ne-clause-before
returns-else-ne-clause-before c = had (goal.at.returns-else-ne-clause-before c).After-write_value-was

pub returns-else-ne-clause-keys : goal.returns-else-ne-clause-keys
returns-else-ne-clause-keys c = ap (λ n. n.keys) (wrote (goal.at.returns-else-ne-clause-keys c).After-write_value-was)

pub returns-else-ne-clause-groups : goal.returns-else-ne-clause-groups
returns-else-ne-clause-groups c =
    let at = (goal.at.returns-else-ne-clause-groups c).After-write_value-was in
    ap (λ n. groups_in n.values) (wrote at) ∙ groups_changed c.args.nodes.now c.args.key c.get.result.now (there at) c.args.value c.requires.counted

pub returns-else-ne-clause-counted : goal.returns-else-ne-clause-counted
returns-else-ne-clause-counted c =
    let at = (goal.at.returns-else-ne-clause-counted c).After-write_value-was in
    let alike : control_of c.get.result.now.settings ≡ control_of (with_new c.args.value c.get.result.now.settings) =
    ap control_of c.in-Some.is
    ∙ sym c.control-before.ensures
    ∙ same_sets c.control-before.result c.control-after.result (sym c.ne.ensures ∙ c.if-ne.false)
    ∙ c.control-after.ensures
    ∙ ap (λ u. control_of (with_new c.args.value u)) (sym c.in-Some.is) in
    subst (λ n. AreCounted n.values) (sym (wrote at)) (counted_as_before c.args.nodes.now c.args.key c.get.result.now (there at) c.args.value c.requires.counted alike)

pub returns-else-ne-clause-held : goal.returns-else-ne-clause-held
returns-else-ne-clause-held c =
    let at = (goal.at.returns-else-ne-clause-held c).After-write_value-was in
    ap (λ n. held_in n.values) (wrote at) ∙ held_alike c.args.nodes.now c.args.key c.get.result.now (there at) c.args.value c.requires.counted
