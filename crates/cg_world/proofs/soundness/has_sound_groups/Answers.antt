use Rattle.std.proofs.Common.{◌≡◌, zero, suc, List, [], ◌∷◌, ◌++◌, Contains, Option, Some, None, IfSome, inl, inr, refl, sym, ap, subst, ◌∙◌, true≢false, arith}
use Rattle.std.specs.List.{AllByRecursion}
use Rattle.std.specs.Map.Iter.{deref_pair}
use Rattle.std.proofs.lemmas.List.Elements.{Contains-append_cases}
use Rattle.std.proofs.lemmas.Map.Iter.{rest_more, rest_all, btree_map_turn}
use Rattle.cg_maps.specs.FiniteMap.{get}
use Rattle.cg_maps.proofs.TreeMaps.{get-view}
use Rattle.cg_name.specs.Order.{path_cmp_total, path_cmp_exact}
use Rattle.cg_model.specs.Tree.{Tree, group}
use Rattle.cg_world.specs.Soundness.{HasGroup, IsSoundGroup}
use Rattle.cg_world.specs.declared.soundness.Found.{Found}
use Rattle.cg_world.proofs.SoundTrees.{each_answer}
use Rattle.cg_world.proofs.soundness.has_sound_groups.Goals as goal

-- all of these are groups of the tree
abbrev AreGroups : Tree → List Found → Type 0
AreGroups T gs = (g : Found) → Contains gs g → HasGroup T g.path.now g.settings.now

none_there : (g : Found) → Contains [] g → ⊥
none_there g (k, low, e) = omega (arith, low)

near_group : (T : Tree) (gs : List Found) (near : Option Found) → AreGroups T gs → IfSome near (λ g. Contains gs g) → IfSome near (λ g. HasGroup T g.path.now g.settings.now)
near_group T gs None all there = tt
near_group T gs (Some g) all there = all g there

the_one : (T : Tree) (child g : Found) → HasGroup T child.path.now child.settings.now → Contains (child ∷ []) g → HasGroup T g.path.now g.settings.now
the_one T child g here (zero, low, e) = subst (λ f. HasGroup T f.path.now f.settings.now) e here
the_one T child g here (suc k, low, e) = absurd (omega (arith, low))

pushed_groups : (T : Tree) (before left after : List Found) (child : Found) → AreGroups T before → ((g : Found) → Contains left g → Contains before g) → after ≡ left ++ child ∷ [] → HasGroup T child.path.now child.settings.now → AreGroups T after
pushed_groups T before left after child all kept is here g there =
    elim (Contains-append_cases left (child ∷ []) g (subst (λ gs. Contains gs g) is there)) [ inl old ↦ all g (kept g old) | inr new ↦ the_one T child g here new ]

pub loop-path-init : goal.loop-path-init
loop-path-init c = record {
  decides = λ h. each_answer path_cmp_total path_cmp_exact (IsSoundGroup c.args.tree.now) c.groups-path-items.result.now.entries c.args.tree.now.groups c.groups-path-items.ensures
      (subst (AllByRecursion (λ e. IsSoundGroup c.args.tree.now e.0 e.1)) c.into_iter-path-iterator.ensures.into_iter_gives.0 h);
  groups = λ g there. absurd (none_there g (subst (λ gs. Contains gs g) c.new-above.ensures.items there));
}

pub is_sound_group-requires-clause-child : goal.is_sound_group-requires-clause-child
is_sound_group-requires-clause-child c =
    let T = c.args.tree.now in
    let m = c.groups-path-items.result.now in
    let turn = btree_map_turn deref_pair _ _ _ _ _ _ c.loop-path.yielded_by c.in-Some.is c.next.ensures.steps path_cmp_total m c.into_iter-path-iterator.ensures.into_iter_gives.0 c.into_iter-path-iterator.ensures.into_iter_gives.5 in
    let here : group T c.in-Some.path.now ≡ Some c.in-Some.settings.now = ap (λ g. get g c.in-Some.path.now) (sym c.groups-path-items.ensures) ∙ get-view path_cmp_total path_cmp_exact m c.in-Some.path.now ∙ turn.1 in
    let child : HasGroup T c.new-child.result.path.now c.new-child.result.settings.now = ap (group T) c.new-child.ensures.path ∙ here ∙ ap (λ s. Some s) (sym c.new-child.ensures.settings) in
    child

pub is_sound_group-requires-clause-near : goal.is_sound_group-requires-clause-near
is_sound_group-requires-clause-near c = near_group c.args.tree.now _ c.last_above-near.result c.loop-path.invariant.groups c.last_above-near.ensures.last

pub returns-then-not-branch : goal.returns-then-not-branch
returns-then-not-branch c =
    let T = c.args.tree.now in
    let m = c.groups-path-items.result.now in
    let turn = btree_map_turn deref_pair _ _ _ _ _ _ c.loop-path.yielded_by c.in-Some.is c.next.ensures.steps path_cmp_total m c.into_iter-path-iterator.ensures.into_iter_gives.0 c.into_iter-path-iterator.ensures.into_iter_gives.5 in
    let here : group T c.in-Some.path.now ≡ Some c.in-Some.settings.now = ap (λ g. get g c.in-Some.path.now) (sym c.groups-path-items.ensures) ∙ get-view path_cmp_total path_cmp_exact m c.in-Some.path.now ∙ turn.1 in
    let child : HasGroup T c.new-child.result.path.now c.new-child.result.settings.now = ap (group T) c.new-child.ensures.path ∙ here ∙ ap (λ s. Some s) (sym c.new-child.ensures.settings) in (
      λ t. absurd (true≢false (sym t)),
      λ all. absurd (true≢false (sym (c.in_ok-is_sound_group.ensures.1 (all _ _ child)) ∙ c.if-not-branch.true)),
    )

pub loop-path-preserved : goal.loop-path-preserved
loop-path-preserved c =
    let T = c.args.tree.now in
    let m = c.groups-path-items.result.now in
    let turn = btree_map_turn deref_pair _ _ _ _ _ _ c.loop-path.yielded_by c.in-Some.is c.next.ensures.steps path_cmp_total m c.into_iter-path-iterator.ensures.into_iter_gives.0 c.into_iter-path-iterator.ensures.into_iter_gives.5 in
    let here : group T c.in-Some.path.now ≡ Some c.in-Some.settings.now = ap (λ g. get g c.in-Some.path.now) (sym c.groups-path-items.ensures) ∙ get-view path_cmp_total path_cmp_exact m c.in-Some.path.now ∙ turn.1 in
    let child : HasGroup T c.new-child.result.path.now c.new-child.result.settings.now = ap (group T) c.new-child.ensures.path ∙ here ∙ ap (λ s. Some s) (sym c.new-child.ensures.settings) in
    let sound = c.in_ok-is_sound_group.ensures.0 c.if-not-branch.false in
    let here_sound : IsSoundGroup T c.in-Some.path.now c.in-Some.settings.now = subst (λ s. IsSoundGroup T c.in-Some.path.now s) c.new-child.ensures.settings (subst (λ p. IsSoundGroup T p c.new-child.result.settings.now) c.new-child.ensures.path sound) in
    record {
      decides = λ h. c.loop-path.invariant.decides
          (subst (AllByRecursion (λ e. IsSoundGroup T e.0 e.1)) (sym (rest_more deref_pair _ _ _ _ c.in-Some.is c.next.ensures.steps)) (here_sound, h));
      groups = pushed_groups T _ _ _ _ c.loop-path.invariant.groups c.last_above-near.ensures.kept c.in_ok-push.ensures.items child;
    }

pub returns : goal.returns
returns c = (
  λ _. c.loop-path.invariant.decides (subst (AllByRecursion (λ e. IsSoundGroup c.args.tree.now e.0 e.1)) (sym (rest_all deref_pair _ _ _ c.in-None.is c.next.ensures.steps)) tt),
  λ _. refl,
)
