-- The entry is the one that the iterator yields behind so many others.
use Rattle.std.proofs.Common.{sym, ap, ◌∙◌, slice_get}
use Rattle.std.specs.Map.Iter.{deref_pair}
use Rattle.std.specs.Option.{option_map}
use Rattle.std.proofs.lemmas.Iterator.Consumers.{YieldsList-from_rest, nth_from_yields_List}
use Rattle.cg_maps.specs.FiniteMap.{entries}
use Rattle.cg_maps.proofs.TreeMaps.{entries-view}
use Rattle.std.specs.Cmp.{nat_cmp_total}
use Rattle.std.specs.FinMap.{nat_cmp-IsAntisymmetric}
use Rattle.cg_world.proofs.world.World.proc_at.Goals as goal

pub returns-in_err-pid : goal.returns-in_err-pid
returns-in_err-pid c =
    let found = nth_from_yields_List c.nth.result _ c.args.index c.nth.ensures.ran (YieldsList-from_rest c.places.result.now.entries c.iter.ensures.rest) in
    let all = entries-view nat_cmp_total nat_cmp-IsAntisymmetric c.places.result.now c.iter.ensures.ordered in
    ap (option_map (λ e. (e.0, e.1.now))) c.from_residual.ensures ∙ ap (option_map deref_pair) (sym c.in_err-pid.was) ∙ found
    ∙ ap (λ es. slice_get es c.args.index) (sym all ∙ ap entries c.places.ensures ∙ ap (λ T. entries T.places) c.self.view_is)

pub returns : goal.returns
returns c =
    let found = nth_from_yields_List c.nth.result _ c.args.index c.nth.ensures.ran (YieldsList-from_rest c.places.result.now.entries c.iter.ensures.rest) in
    let all = entries-view nat_cmp_total nat_cmp-IsAntisymmetric c.places.result.now c.iter.ensures.ordered in
    ap (option_map deref_pair) (sym c.in_ok-pid.was) ∙ found
    ∙ ap (λ es. slice_get es c.args.index) (sym all ∙ ap entries c.places.ensures ∙ ap (λ T. entries T.places) c.self.view_is)
