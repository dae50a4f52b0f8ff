-- The entry is the one that the iterator yields behind so many others.
use Rattle.std.proofs.Common.{sym, ap, ◌∙◌, slice_get}
use Rattle.std.proofs.lemmas.Iterator.Consumers.{YieldsList-from_rest, nth_from_yields_List}
use Rattle.cg_maps.specs.FiniteMap.{entries}
use Rattle.cg_maps.proofs.TreeMaps.{entries-view}
use Rattle.cg_name.specs.Order.{path_cmp_total, path_cmp_exact}
use Rattle.cg_world.proofs.world.World.group_at.Goals as goal

pub returns : goal.returns
returns c =
    let found = nth_from_yields_List c.nth.result _ c.args.index c.nth.ensures.ran (YieldsList-from_rest c.groups.result.now.entries c.iter.ensures.rest) in
    let all = entries-view path_cmp_total path_cmp_exact c.groups.result.now c.iter.ensures.ordered in
    found
    ∙ ap (λ es. slice_get es c.args.index) (sym all ∙ ap entries c.groups.ensures ∙ ap (λ T. entries T.groups) c.self.view_is)
