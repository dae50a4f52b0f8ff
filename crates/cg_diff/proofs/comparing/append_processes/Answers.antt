use Rattle.std.proofs.Common.{◌++◌, refl, ap, ◌∙◌, rules}
use Rattle.std.specs.Cmp.{nat_cmp_total}
use Rattle.std.specs.FinMap.{nat_cmp-IsAntisymmetric}
use Rattle.std.specs.Ordering.{nat_cmp}
use Rattle.std.proofs.lemmas.Iterator.Consumers.{YieldsList-at, YieldsList-end}
use Rattle.itertools.specs.declared.either_or_both.EitherOrBoth.TheVariants.{Both, Left, Right}
use Rattle.cg_diff.specs.Difference.{process_changes}
use Rattle.cg_diff.specs.Sides.{process_side}
use Rattle.cg_diff.proofs.Sides.{by_keys, told_of_keys, yields_sides}
use Rattle.cg_diff.proofs.comparing.append_processes.Goals as goal

pub returns : goal.returns
returns c =
    let A = c.args.before.now in
    let B = c.args.after.now in
    let merge = c.merge_join_by-sides.ensures in
    let road = yields_sides nat_cmp c.places.result.now.entries c.places-2.result.now.entries
    (λ p on at. let r = merge.runs p on at in (r.0, r.1, (r.2.0, r.2.1, (r.2.2.1 (by_keys nat_cmp) (λ x y q f k. search rules)).2)))
    c.iter.ensures.rest (merge.second.0 ∙ c.iter-2.ensures.rest) in
    let passed = (YieldsList-end (YieldsList-at c.into_iter-side-iterator.ensures.into_iter_gives road) c.loop-side.yielded _ c.loop-side.yielded_by _ _ c.in-None.is c.next.ensures.steps).0 in
    let told = told_of_keys nat_cmp_total nat_cmp-IsAntisymmetric process_side process_changes (elim [ Left e ↦ refl | Right e ↦ refl | Both e f ↦ refl ]) A.places B.places
    c.places.result.now c.places-2.result.now c.places.ensures c.places-2.ensures c.iter.ensures.ordered c.iter-2.ensures.ordered c.loop-side.yielded passed in
    c.loop-side.invariant ∙ ap (λ text. c.args.out.now.items ++ text) told
