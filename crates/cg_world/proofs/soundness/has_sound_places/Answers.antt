use Rattle.std.proofs.Common.{◌≡◌, Some, refl, sym, ap, subst, ◌∙◌, true≢false}
use Rattle.std.specs.Cmp.{nat_cmp_total}
use Rattle.std.specs.FinMap.{nat_cmp-IsAntisymmetric}
use Rattle.std.specs.List.{AllByRecursion}
use Rattle.std.specs.Map.Iter.{deref_pair}
use Rattle.std.proofs.lemmas.Map.Iter.{rest_more, rest_all, btree_map_turn}
use Rattle.cg_maps.specs.FiniteMap.{get}
use Rattle.cg_maps.proofs.TreeMaps.{get-view}
use Rattle.cg_model.specs.Tree.{place_of}
use Rattle.cg_world.specs.Soundness.{IsSoundPlace}
use Rattle.cg_world.proofs.SoundTrees.{each_answer}
use Rattle.cg_world.proofs.soundness.has_sound_places.Goals as goal

pub loop-pid-init : goal.loop-pid-init
loop-pid-init c =
    λ h. each_answer nat_cmp_total nat_cmp-IsAntisymmetric (λ _. IsSoundPlace c.args.tree.now) c.places-pid-items.result.now.entries c.args.tree.now.places c.places-pid-items.ensures
    (subst (AllByRecursion (λ e. IsSoundPlace c.args.tree.now e.1)) c.into_iter-pid-iterator.ensures.into_iter_gives.0 h)

pub returns-then-not-is_sound_place : goal.returns-then-not-is_sound_place
returns-then-not-is_sound_place c =
    let m = c.places-pid-items.result.now in
    let turn = btree_map_turn deref_pair _ _ _ _ _ _ c.loop-pid.yielded_by c.in-Some.is c.next.ensures.steps nat_cmp_total m c.into_iter-pid-iterator.ensures.into_iter_gives.0 c.into_iter-pid-iterator.ensures.into_iter_gives.5 in
    let here : place_of c.args.tree.now c.in-Some._pid.now ≡ Some c.in-Some.path.now =
    ap (λ g. get g c.in-Some._pid.now) (sym c.places-pid-items.ensures) ∙ get-view nat_cmp_total nat_cmp-IsAntisymmetric m c.in-Some._pid.now ∙ turn.1 in
    (λ t. absurd (true≢false (sym t)), λ all. absurd (true≢false (sym (c.is_sound_place.ensures.1 (all _ _ here)) ∙ c.if-not-is_sound_place.true)))

pub loop-pid-preserved : goal.loop-pid-preserved
loop-pid-preserved c =
    let here : IsSoundPlace c.args.tree.now c.in-Some.path.now = c.is_sound_place.ensures.0 c.if-not-is_sound_place.false in
    λ h. c.loop-pid.invariant
    (subst (AllByRecursion (λ e. IsSoundPlace c.args.tree.now e.1)) (sym (rest_more deref_pair _ _ _ _ c.in-Some.is c.next.ensures.steps)) (here, h))

pub returns : goal.returns
returns c = (
  λ _. c.loop-pid.invariant (subst (AllByRecursion (λ e. IsSoundPlace c.args.tree.now e.1)) (sym (rest_all deref_pair _ _ _ c.in-None.is c.next.ensures.steps)) tt),
  λ _. refl,
)
