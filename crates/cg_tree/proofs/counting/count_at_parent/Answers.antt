-- The parent alone is right above the node.
use Rattle.std.proofs.Common.{ap, refl}
use Rattle.cg_tree.specs.Entries.{with_right_below}
use Rattle.cg_tree.proofs.Climbing.{changed_at_parent, entry_of_parent, has_room_right, no_parent}
use Rattle.cg_tree.proofs.counting.count_at_parent.Goals as goal

pub count_right_below-requires-clause-room : goal.count_right_below-requires-clause-room
count_right_below-requires-clause-room c e there = has_room_right (with_right_below c.args.comes) (λ e. refl) c.args.nodes.now c.args.key c.laws.ensures.one_path c.requires.key c.parent.result c.parent.ensures.root c.parent.ensures.value c.in-Some.parent c.in-Some.is e there c.requires.room

pub returns-in-Some-clause-keys : goal.returns-in-Some-clause-keys
returns-in-Some-clause-keys c =
    let found = entry_of_parent (with_right_below c.args.comes) (λ e. refl) c.args.nodes.now c.args.key c.laws.ensures.one_path c.requires.key c.parent.result c.parent.ensures.root c.parent.ensures.value c.in-Some.parent c.in-Some.is c.laws.ensures.both in
    ap (λ n. n.keys) (c.count_right_below.ensures found.0 found.1)

pub returns-in-Some-clause-values : goal.returns-in-Some-clause-values
returns-in-Some-clause-values c =
    let found = entry_of_parent (with_right_below c.args.comes) (λ e. refl) c.args.nodes.now c.args.key c.laws.ensures.one_path c.requires.key c.parent.result c.parent.ensures.root c.parent.ensures.value c.in-Some.parent c.in-Some.is c.laws.ensures.both in
    changed_at_parent (with_right_below c.args.comes) (λ e. refl) c.args.nodes.now c.args.key c.laws.ensures.one_path c.requires.key c.parent.result c.parent.ensures.root c.parent.ensures.value c.in-Some.parent c.in-Some.is found.0 found.1 c.count_right_below.new.nodes (c.count_right_below.ensures found.0 found.1)

pub returns-in_default-clause-values : goal.returns-in_default-clause-values
returns-in_default-clause-values c = no_parent (with_right_below c.args.comes) (λ e. refl) c.args.nodes.now c.args.key c.laws.ensures.one_path c.requires.key c.parent.result c.parent.ensures.root c.parent.ensures.value c.in_default.is
