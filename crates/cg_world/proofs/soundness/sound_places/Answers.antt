use Rattle.std.proofs.Common.{◌≡◌, Some, sym, ap, subst, ◌∙◌}
use Rattle.std.specs.Map.Iter.{deref_pair}
use Rattle.std.proofs.lemmas.Map.Iter.{rest_more, rest_all, btree_map_turn}
use Rattle.cg_maps.specs.FiniteMap.{get}
use Rattle.cg_maps.proofs.TreeMaps.{get-view}
use Rattle.cg_name.specs.Order.{path_cmp_total, path_cmp_exact}
use Rattle.cg_model.specs.Tree.{group}
use Rattle.cg_world.proofs.SoundTrees.{Collects, collects_first, collects_with, collects_without, collects_all}
use Rattle.cg_world.proofs.soundness.sound_places.Goals as goal

pub loop-path-init : goal.loop-path-init
loop-path-init c =
    subst (Collects c.args.tree.now c.new-paths.result.keys) (sym c.into_iter-path-iterator.ensures.into_iter_gives.0)
    (collects_first c.args.tree.now c.new-paths.result.keys c.groups-path-items.result.now.entries c.new-paths.ensures.empty c.groups-path-items.ensures)

pub loop-path-preserved : goal.loop-path-preserved
loop-path-preserved c =
    collects_without c.args.tree.now c.loop-path.paths.keys c.in-Some.path.now c.in-Some.settings.now _
    (subst (Collects c.args.tree.now c.loop-path.paths.keys) (rest_more deref_pair _ _ _ _ c.in-Some.is c.next.ensures.steps) c.loop-path.invariant)
    (sym c.may_have_processes.ensures ∙ c.if-may_have_processes.false)

pub loop-path-preserved-in_ok-insert : goal.loop-path-preserved-in_ok-insert
loop-path-preserved-in_ok-insert c =
    let m = c.groups-path-items.result.now in
    let turn = btree_map_turn deref_pair _ _ _ _ _ _ c.loop-path.yielded_by c.in-Some.is c.next.ensures.steps path_cmp_total m c.into_iter-path-iterator.ensures.into_iter_gives.0 c.into_iter-path-iterator.ensures.into_iter_gives.5 in
    let here : group c.args.tree.now c.in-Some.path.now ≡ Some c.in-Some.settings.now =
    ap (λ g. get g c.in-Some.path.now) (sym c.groups-path-items.ensures) ∙ get-view path_cmp_total path_cmp_exact m c.in-Some.path.now ∙ turn.1 in
    collects_with c.args.tree.now c.loop-path.paths.keys c.insert.new.self.keys c.in-Some.path.now c.in-Some.settings.now _
    (subst (Collects c.args.tree.now c.loop-path.paths.keys) (rest_more deref_pair _ _ _ _ c.in-Some.is c.next.ensures.steps) c.loop-path.invariant)
    here (sym c.may_have_processes.ensures ∙ c.if-may_have_processes.true)
    (λ q. c.in_ok-insert.ensures.updates.0 (record { ref_ptr = (0, 0); now = q }))

pub returns : goal.returns
returns c =
    collects_all c.args.tree.now c.loop-path.paths.keys
    (subst (Collects c.args.tree.now c.loop-path.paths.keys) (rest_all deref_pair _ _ _ c.in-None.is c.next.ensures.steps) c.loop-path.invariant)
