use Rattle.std.proofs.Common.{◌≡◌, nat_eq, Some, sym, subst, ◌∙◌}
use Rattle.std.specs.List.{AllByRecursion}
use Rattle.std.specs.Cmp.Lexicographic.{pointwise}
use Rattle.std.specs.Map.Iter.{deref_pair}
use Rattle.std.proofs.lemmas.Map.Iter.{btree_map_turn}
use Rattle.cg_maps.specs.FiniteMap.{get, from_entries}
use Rattle.cg_maps.proofs.TreeMaps.{get-view}
use Rattle.cg_name.specs.Path.{path_cmp}
use Rattle.cg_name.specs.Order.{path_cmp_total, path_cmp_exact}
use Rattle.cg_world.specs.Soundness.{IsPlaceIn}
use Rattle.cg_world.proofs.Places.{all_inserted}
use Rattle.cg_world.proofs.gathered_groups.allowed_of_map.Goals as goal

pub loop-path-init : goal.loop-path-init
loop-path-init c = subst (AllByRecursion (IsPlaceIn (from_entries path_cmp c.args.groups.now.entries))) (sym c.in_ok-paths.ensures.empty) tt

pub loop-path-preserved-in_ok-insert : goal.loop-path-preserved-in_ok-insert
loop-path-preserved-in_ok-insert c =
    let m = c.args.groups.now in
    let turn = btree_map_turn deref_pair _ _ _ _ _ _ c.loop-path.yielded_by c.in-Some.is c.next.ensures.steps path_cmp_total m c.into_iter-path-iterator.ensures.into_iter_gives.0 c.into_iter-path-iterator.ensures.into_iter_gives.5 in
    let here : get (from_entries path_cmp m.entries) c.in-Some.path.now ≡ Some c.in-Some.settings.now = get-view path_cmp_total path_cmp_exact m c.in-Some.path.now ∙ turn.1 in
    let place : IsPlaceIn (from_entries path_cmp m.entries) c.in-Some.path.now = (c.in-Some.settings.now, here, sym c.may_have_processes.ensures ∙ c.if-may_have_processes.true) in
    all_inserted (IsPlaceIn (from_entries path_cmp m.entries)) (pointwise (pointwise nat_eq)) c.loop-path.paths.keys c.insert.new.self.keys c.in_ok-copy.field-0 c.in_ok-insert.ensures.keys c.loop-path.invariant
    (subst (IsPlaceIn (from_entries path_cmp m.entries)) (sym c.in_ok-copy.ensures.value) place)
