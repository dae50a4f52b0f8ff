-- The parent alone is right above the node.
use Rattle.std.proofs.Common.{ap, refl}
use Rattle.cg_tree.specs.Entries.{with_passing}
use Rattle.cg_tree.proofs.Climbing.{changed_at_parent, entry_of_parent, has_room_right, no_parent}
use Rattle.cg_tree.proofs.counting.pass_at_parent.Goals as goal

pub change_passing-requires-clause-room : goal.change_passing-requires-clause-room
change_passing-requires-clause-room c e there = has_room_right (with_passing c.args.before.now c.args.after.now) (λ e. refl) c.args.nodes.now c.args.key c.laws.ensures.one_path c.requires.key c.parent.result c.parent.ensures.root c.parent.ensures.value c.in-Some.parent c.in-Some.is e there c.requires.room

pub returns-in-Some-clause-keys : goal.returns-in-Some-clause-keys
returns-in-Some-clause-keys c =
    let found = entry_of_parent (with_passing c.args.before.now c.args.after.now) (λ e. refl) c.args.nodes.now c.args.key c.laws.ensures.one_path c.requires.key c.parent.result c.parent.ensures.root c.parent.ensures.value c.in-Some.parent c.in-Some.is c.laws.ensures.both in
    ap (λ n. n.keys) (c.change_passing.ensures found.0 found.1)

pub returns-in-Some-clause-values : goal.returns-in-Some-clause-values
returns-in-Some-clause-values c =
    let found = entry_of_parent (with_passing c.args.before.now c.args.after.now) (λ e. refl) c.args.nodes.now c.args.key c.laws.ensures.one_path c.requires.key c.parent.result c.parent.ensures.root c.parent.ensures.value c.in-Some.parent c.in-Some.is c.laws.ensures.both in
    changed_at_parent (with_passing c.args.before.now c.args.after.now) (λ e. refl) c.args.nodes.now c.args.key c.laws.ensures.one_path c.requires.key c.parent.result c.parent.ensures.root c.parent.ensures.value c.in-Some.parent c.in-Some.is found.0 found.1 c.change_passing.new.nodes (c.change_passing.ensures found.0 found.1)

pub returns-in_default-clause-values : goal.returns-in_default-clause-values
returns-in_default-clause-values c = no_parent (with_passing c.args.before.now c.args.after.now) (λ e. refl) c.args.nodes.now c.args.key c.laws.ensures.one_path c.requires.key c.parent.result c.parent.ensures.root c.parent.ensures.value c.in_default.is
