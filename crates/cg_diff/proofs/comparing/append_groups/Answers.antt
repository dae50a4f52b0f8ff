use Rattle.std.proofs.Common.{◌++◌, refl, ap, ap₂, ◌∙◌, rules}
use Rattle.std.specs.List.{flat_map}
use Rattle.std.proofs.lemmas.Iterator.Consumers.{YieldsList-at, YieldsList-end}
use Rattle.itertools.specs.declared.either_or_both.EitherOrBoth.TheVariants.{Both, Left, Right}
use Rattle.cg_name.specs.Order.{path_cmp_total, path_cmp_exact}
use Rattle.cg_name.specs.Path.{path_cmp}
use Rattle.cg_model.specs.Tree.{group}
use Rattle.cg_diff.specs.Difference.{group_changes, keys_of_either}
use Rattle.cg_diff.specs.Sides.{group_side}
use Rattle.cg_diff.proofs.Sides.{by_keys, told_of_keys, yields_sides}
use Rattle.cg_diff.proofs.comparing.append_groups.Goals as goal

pub returns : goal.returns
returns c =
    let A = c.args.before.now in
    let B = c.args.after.now in
    let v = c.version_of-old.result in
    let w = c.version_of-new.result in
    let merge = c.merge_join_by-sides.ensures in
    let road = yields_sides path_cmp c.groups.result.now.entries c.groups-2.result.now.entries
    (λ p on at. let r = merge.runs p on at in (r.0, r.1, (r.2.0, r.2.1, (r.2.2.1 (by_keys path_cmp) (λ x y q f k. search rules)).2)))
    c.iter.ensures.rest (merge.second.0 ∙ c.iter-2.ensures.rest) in
    let passed = (YieldsList-end (YieldsList-at c.into_iter-side-iterator.ensures.into_iter_gives road) c.loop-side.yielded _ c.loop-side.yielded_by _ _ c.in-None.is c.next.ensures.steps).0 in
    let told = told_of_keys path_cmp_total path_cmp_exact (group_side v w) (group_changes v w) (elim [ Left e ↦ refl | Right e ↦ refl | Both e f ↦ refl ]) A.groups B.groups
    c.groups.result.now c.groups-2.result.now c.groups.ensures c.groups-2.ensures c.iter.ensures.ordered c.iter-2.ensures.ordered c.loop-side.yielded passed in
    c.loop-side.invariant
    ∙ ap (λ text. c.args.out.now.items ++ text) (told
    ∙ ap₂ (λ v w. flat_map (λ p. group_changes v w p (group A p) (group B p)) (keys_of_either A.groups B.groups)) c.version_of-old.ensures c.version_of-new.ensures)
