-- What was passed over is dead, and what is found stands first.
use Rattle.std.proofs.Common.{◌≡◌, ◌+◌, Some, drop, slice_get, ap, sym, ◌∙◌}
use Rattle.cg_tree.specs.Entries.{path_at}
use Rattle.cg_tree.specs.Listing.{listed}
use Rattle.cg_tree.specs.Present.{with_held}
use Rattle.cg_tree.proofs.Climbing.{at_own_path, at_path}
use Rattle.cg_tree.proofs.NodeLists.{from_place, past_the_end, settings_there}
use Rattle.cg_tree.proofs.listed.next_group.Goals as goal

pub get-requires : goal.get-requires
get-requires c = c.requires c.loop-key.passed c.in-Some.key (sym c.in-Some.ensures)

pub returns-in-Some-settings : goal.returns-in-Some-settings
returns-in-Some-settings c =
    let at : slice_get c.args.keys.now c.loop-key.passed ≡ Some c.in-Some.key = sym c.in-Some.ensures in
    let key = c.requires c.loop-key.passed c.in-Some.key at in
    let there = c.get.ensures (path_at c.args.nodes.now c.in-Some.key) (at_own_path c.args.nodes.now c.in-Some.key c.laws.ensures.one_path key) in
    let place = at_path c.args.nodes.now c.in-Some.key c.path.result c.laws.ensures.one_path c.path.ensures in
    sym c.loop-key.invariant
    ∙ from_place c.args.nodes.now c.args.keys.now c.loop-key.passed c.in-Some.key at
    ∙ (λ i. with_held (place i) ((settings_there c.args.nodes.now c.in-Some.key c.get.result.now there ∙ c.in-Some-settings.is) i) (listed c.args.nodes.now (drop (c.loop-key.passed + 1) c.args.keys.now)))

pub loop-key-preserved : goal.loop-key-preserved
loop-key-preserved c =
    let at : slice_get c.args.keys.now c.loop-key.passed ≡ Some c.in-Some.key = sym c.in-Some.ensures in
    let key = c.requires c.loop-key.passed c.in-Some.key at in
    let there = c.get.ensures (path_at c.args.nodes.now c.in-Some.key) (at_own_path c.args.nodes.now c.in-Some.key c.laws.ensures.one_path key) in
    sym (from_place c.args.nodes.now c.args.keys.now c.loop-key.passed c.in-Some.key at
    ∙ ap (λ w. with_held (path_at c.args.nodes.now c.in-Some.key) w (listed c.args.nodes.now (drop (c.loop-key.passed + 1) c.args.keys.now))) (settings_there c.args.nodes.now c.in-Some.key c.get.result.now there ∙ c.in_default-settings.is))
    ∙ c.loop-key.invariant

pub returns : goal.returns
returns c =
    let past = past_the_end c.args.nodes.now c.args.keys.now c.loop-key.passed (sym c.in_default.ensures) in
    (sym c.loop-key.invariant ∙ past, past)
