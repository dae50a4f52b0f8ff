-- Derived values by what they say of the tree.
use Rattle.std.proofs.Common.{◌≡◌, ◌↔◌, ℕ, Bool, true, false, cond, List, [], ◌∷◌, ◌++◌, drop, inl, inr, refl, sym, ap, subst, ◌∙◌, Option, Some, None, option_map, option_and_then}
use Rattle.std.proofs.lemmas.Bool.{and_parts, and_from, or_cases, or_left, or_right, true_from_ne_false}
use Rattle.std.proofs.lemmas.Option.{none-some, same_Some}
use Rattle.std.specs.Cmp.{nat_cmp_total}
use Rattle.std.specs.FinMap.{nat_cmp-IsAntisymmetric}
use Rattle.std.specs.List.{list_any}
use Rattle.cg_maps.specs.FiniteMap.{retain}
use Rattle.cg_maps.specs.FiniteSet.{FiniteSet}
use Rattle.cg_maps.proofs.Maps as maps
use Rattle.cg_name.specs.declared.controller.Controller.TheVariants.{Cpuset}
use Rattle.cg_name.specs.Path.{Path, is_root, is_prefix, is_parent, along}
use Rattle.cg_text.specs.declared.settings.Settings.{Settings}
use Rattle.cg_model.specs.Tree.{Tree, group, place_of, parent_group}
use Rattle.cg_model.specs.Derived.{is_in_subtree, processes_in_subtree, available, with_cpuset, has_freeze, down_to, is_frozen, is_populated, narrowed, narrowed_along, effective_cpus, below_root}
use Rattle.cg_model.specs.Sound.{Sound}
use Rattle.cg_model_laws.specs.Values.{ParentGroups, ValuesBelowRoot, PopulatedBelow, FrozenAbove, NoValues, EffectiveOfRoot, EffectiveOfChild, EffectiveNeedsCpuset}
use Rattle.cg_name.proofs.Packing.{same_name-is, same_name-itself}
use Rattle.cg_model_laws.proofs.Paths.{never}
use Rattle.cg_model_laws.proofs.Parents.{last_is_parent, parent_exists, available_below, available_root}

pub parent_groups : ParentGroups
parent_groups T p q e = last_is_parent (group T) p q e

-- a value of a present group below the root is there
value_there : {A : Type 0} (p : Path) (o : Option Settings) (s : Settings) (x : A) → o ≡ Some s → is_root p ≡ false → below_root p o x ≡ Some x
value_there p o s x e r = ap (option_and_then (λ _. cond (is_root p) None (Some x))) e ∙ ap (λ b. cond b None (Some x)) r

pub values_below_root : ValuesBelowRoot
values_below_root T p s e r = (value_there p (group T p) s (is_populated T p) e r, value_there p (group T p) s (is_frozen T p) e r)

-- so that it says what the test says
told : (p : Path) (o : Option Settings) (s : Settings) (b : Bool) → o ≡ Some s → is_root p ≡ false → (below_root p o b ≡ Some true) ↔ (b ≡ true)
told p o s b e r = ((λ h. same_Some b true (sym (value_there p o s b e r) ∙ h)), (λ h. value_there p o s b e r ∙ ap Some h))

in_turn : {A B C : Type 0} → A ↔ B → B ↔ C → A ↔ C
in_turn p q = ((λ a. q.0 (p.0 a)), (λ c. p.1 (q.1 c)))

module _ (T : Tree) (p : Path) where
  abbrev is_member : ℕ → Bool
  is_member k = is_in_subtree p (place_of T k)

  below_is : (o : Option Path) (q : Path) → cond (is_in_subtree p o) o None ≡ Some q → (o ≡ Some q) × (is_prefix p q ≡ true)
  below_is None q e = absurd (none-some q e)
  below_is (Some r) q e =
      elim (is_prefix p r) as (λ b. is_prefix p r ≡ b → cond b (Some r) None ≡ Some q → (Some r ≡ Some q) × (is_prefix p q ≡ true)) [
        | true ↦ λ k h. (h, subst (λ x. is_prefix p x ≡ true) (same_Some r q h) k)
        | false ↦ λ k h. absurd (none-some q h)
      ] refl e

  populated_is : (is_populated T p ≡ true) ↔ ((k : ℕ) × (q : Path) × (place_of T k ≡ Some q) × (is_prefix p q ≡ true))
  unfolding processes_in_subtree
  populated_is = (
    λ e.
        let (k, q, h) = maps.some_key nat_cmp_total (retain T.places is_member) e in
        let (at, below) = below_is (place_of T k) q (sym (maps.get-retain nat_cmp_total nat_cmp-IsAntisymmetric T.places is_member k) ∙ h) in
        (k, q, at, below),
    λ (k, q, at, below). true_from_ne_false _ (λ none. none-some q (
        sym (maps.none_in_keys (retain T.places is_member) k none)
        ∙ maps.get-retain nat_cmp_total nat_cmp-IsAntisymmetric T.places is_member k
        ∙ ap (λ o. cond (is_in_subtree p o) o None) at
        ∙ ap (λ b. cond b (Some q) None) below
        )),
  )

pub populated_below : PopulatedBelow
populated_below T p s e r = in_turn (told p (group T p) s (is_populated T p) e r) (populated_is T p)

-- some prefix passes a test where some of what stands along the path does, or what stands at the path itself
any_prefix : {A : Type 0} (t : A → Bool) (f : Path → A) (p : Path) → list_any t (along f p ++ f p ∷ []) ≡ true → (q : Path) × (is_prefix q p ≡ true) × (t (f q) ≡ true)
any_prefix t f [] e = elim (or_cases _ _ e) [ inl h ↦ ([], refl, h) | inr h ↦ never h ]
any_prefix t f (n ∷ p) e = elim (or_cases _ _ e) [
  | inl h ↦ ([], refl, h)
  | inr h ↦ let (q, k, i) = any_prefix t (λ x. f (n ∷ x)) p h in (n ∷ q, and_from _ _ (same_name-itself n) k, i)
]

prefix_any : {A : Type 0} (t : A → Bool) (f : Path → A) (p q : Path) → is_prefix q p ≡ true → t (f q) ≡ true → list_any t (along f p ++ f p ∷ []) ≡ true
prefix_any t f [] [] e h = or_left _ _ h
prefix_any t f (n ∷ p) [] e h = or_left _ _ h
prefix_any t f [] (m ∷ q) e h = never e
prefix_any t f (n ∷ p) (m ∷ q) e h =
    let (names, rest) = and_parts _ _ e in
    or_right _ _ (prefix_any t (λ x. f (n ∷ x)) p q rest (subst (λ x. t (f (x ∷ q)) ≡ true) (same_name-is m n names) h))

frozen_is : (T : Tree) (p : Path) → is_root p ≡ false → (is_frozen T p ≡ true) ↔ ((q : Path) × (is_root q ≡ false) × (is_prefix q p ≡ true) × (has_freeze (group T q) ≡ true))
frozen_is T [] r = never (sym r)
frozen_is T (n ∷ p) r = (
  λ e. let (q, k, h) = any_prefix has_freeze (λ x. group T (n ∷ x)) p e in (n ∷ q, refl, and_from _ _ (same_name-itself n) k, h),
  λ (q, below, k, h). up q below k h,
)
  where
    up : (q : Path) → is_root q ≡ false → is_prefix q (n ∷ p) ≡ true → has_freeze (group T q) ≡ true → is_frozen T (n ∷ p) ≡ true
    up [] below k h = never (sym below)
    up (m ∷ q) below k h =
        let (names, rest) = and_parts _ _ k in
        prefix_any has_freeze (λ x. group T (n ∷ x)) p q rest (subst (λ x. has_freeze (group T (x ∷ q)) ≡ true) (same_name-is m n names) h)

pub frozen_above : FrozenAbove
frozen_above T p s e r = in_turn (told p (group T p) s (is_frozen T p) e r) (frozen_is T p r)

nothing_at_root : {A : Type 0} (o : Option Settings) (x : A) → below_root [] o x ≡ None
nothing_at_root None x = refl
nothing_at_root (Some s) x = refl

pub no_values : NoValues
no_values T = (
  nothing_at_root (group T []) (is_populated T []),
  nothing_at_root (group T []) (is_frozen T []),
  λ p e. (ap (λ o. below_root p o (is_populated T p)) e, ap (λ o. below_root p o (is_frozen T p)) e, ap (λ o. cond (with_cpuset (option_and_then (λ (s : Settings). cond (is_root p) (Some T.controllers) (option_map (λ u. u.control) (parent_group T p))) o)) (Some (effective_cpus T p)) None) e),
)

-- ---- effective CPUs

pub effective_needs_cpuset : EffectiveNeedsCpuset
effective_needs_cpuset T p e = ap (λ b. cond b (Some (effective_cpus T p)) None) e

pub effective_of_root : EffectiveOfRoot
effective_of_root T s e = ap (λ a. cond (with_cpuset a) (Some T.online) None) (available_root T s e)

-- along a child's path there is one path more, that of the parent
along_child : {A : Type 0} (f : Path → A) (p q : Path) → is_parent p q ≡ true → along f q ≡ along f p ++ f p ∷ []
along_child f p [] e = never e
along_child f [] (m ∷ []) e = refl
along_child f [] (m ∷ (l ∷ q)) e = never e
along_child f (n ∷ p) (m ∷ q) e =
    let (names, rest) = and_parts _ _ e in
    subst (λ x. f [] ∷ along (λ y. f (m ∷ y)) q ≡ f [] ∷ (along (λ y. f (x ∷ y)) p ++ f (x ∷ p) ∷ [])) (sym (same_name-is n m names))
    (ap (λ l. f [] ∷ l) (along_child (λ y. f (m ∷ y)) p q rest))

drop_first : {A : Type 0} (a b : List A) (x : A) → drop 1 ((a ++ x ∷ []) ++ b) ≡ drop 1 (a ++ x ∷ []) ++ b
drop_first [] b x = refl
drop_first (z ∷ a) b x = refl

narrowed_last : (e : FiniteSet) (l : List (Option Settings)) (s : Option Settings) → narrowed_along e (l ++ s ∷ []) ≡ narrowed (narrowed_along e l) s
narrowed_last e [] s = refl
narrowed_last e (x ∷ l) s = narrowed_last (narrowed e x) l s

narrowed_child : (T : Tree) (p q : Path) → is_parent p q ≡ true → effective_cpus T q ≡ narrowed (effective_cpus T p) (group T q)
narrowed_child T p q e =
    ap (λ l. narrowed_along T.online (drop 1 (l ++ group T q ∷ []))) (along_child (group T) p q e)
    ∙ ap (narrowed_along T.online) (drop_first (along (group T) p) (group T q ∷ []) (group T p))
    ∙ narrowed_last T.online (down_to T p) (group T q)

-- in a sound tree the parent of a group to which cpuset is passed on has it
parent_has_cpuset : (T : Tree) → Sound T → (p : Path) (u : Settings) → group T p ≡ Some u → u.control.cpuset ≡ true → with_cpuset (available T p) ≡ true
parent_has_cpuset T sound [] u e h =
    let (s, there, root) = sound.root in
    ap with_cpuset (available_root T u e) ∙ root.control Cpuset (subst (λ x. x.control.cpuset ≡ true) (same_Some u s (sym e ∙ there)) h)
parent_has_cpuset T sound (n ∷ p) u e h =
    let (q, a) = parent_exists n p in
    let (w, there, fits) = sound.child q (n ∷ p) u a e in
    ap with_cpuset (available_below T (n ∷ p) q u w e a there) ∙ fits.control Cpuset h

pub effective_of_child : EffectiveOfChild
effective_of_child T sound p q s a e h =
    let (u, there, fits) = sound.child p q s a e in
    let passed : u.control.cpuset ≡ true = sym (ap with_cpuset (available_below T q p s u e a there)) ∙ h in
    let cpus : FiniteSet = effective_cpus T p in (
      cpus,
      ap (λ b. cond b (Some cpus) None) (parent_has_cpuset T sound p u there passed),
      ap (λ b. cond b (Some (effective_cpus T q)) None) h ∙ ap Some (narrowed_child T p q a ∙ ap (narrowed cpus) e),
    )
