-- Each step comes to the parent, until there is none.
use Rattle.std.proofs.Common.{refl, ap, sym, ◌∙◌}
use Rattle.cg_maps.specs.FiniteMap.{get}
use Rattle.cg_tree.specs.Entries.{with_below}
use Rattle.cg_tree.proofs.Climbing.{climbed, climbed_all, ends, entry_up, goes_on, goes_to, has_room, not_climbed, same_place, shorter}
use Rattle.cg_tree.proofs.counting.count_above.Goals as goal

pub loop-above-init : goal.loop-above-init
loop-above-init c = not_climbed (with_below c.args.comes) c.args.nodes.now c.args.key (λ e. refl) c.laws.ensures.one_path c.requires.key

pub count_below-requires-clause-room : goal.count_below-requires-clause-room
count_below-requires-clause-room c e there =
    let i = c.loop-above.invariant in
    let deep = goes_on i c.parent.result c.parent.ensures.root c.parent.ensures.value c.in-Some.above c.in-Some.is in
    let up = goes_to i c.parent.result c.parent.ensures.root c.parent.ensures.value c.in-Some.above c.in-Some.is in
    has_room i deep c.in-Some.above up e (ap (get c.loop-above.nodes.values) (sym (same_place i deep c.in-Some.above up)) ∙ there) c.requires.room

pub loop-above-smaller : goal.loop-above-smaller
loop-above-smaller c =
    let i = c.loop-above.invariant in
    let deep = goes_on i c.parent.result c.parent.ensures.root c.parent.ensures.value c.in-Some.above c.in-Some.is in
    shorter i deep c.in-Some.above (goes_to i c.parent.result c.parent.ensures.root c.parent.ensures.value c.in-Some.above c.in-Some.is)

pub loop-above-preserved : goal.loop-above-preserved
loop-above-preserved c =
    let i = c.loop-above.invariant in
    let deep = goes_on i c.parent.result c.parent.ensures.root c.parent.ensures.value c.in-Some.above c.in-Some.is in
    let up = goes_to i c.parent.result c.parent.ensures.root c.parent.ensures.value c.in-Some.above c.in-Some.is in
    let found = entry_up i deep c.in-Some.above up c.laws.ensures.both in
    climbed i deep c.in-Some.above up found.0 found.1 c.count_below.new.nodes (c.count_below.ensures found.0 (ap (get c.loop-above.nodes.values) (same_place i deep c.in-Some.above up) ∙ found.1))

pub returns-clause-values : goal.returns-clause-values
returns-clause-values c =
    let i = c.loop-above.invariant in
    climbed_all (with_below c.args.comes) c.args.nodes.now c.loop-above.nodes _ c.loop-above.at i (ends i c.parent.result c.parent.ensures.root c.parent.ensures.value c.in_default.is)
