-- The derived values of a tree, by what they say of it, for contracts to cite.
use Rattle.std.specs.Prelude.{◌≡◌, ◌↔◌, ℕ, true, false, cond, [], Some, None}
use Rattle.cg_maps.specs.FiniteSet.{FiniteSet, is_empty_set, in_common}
use Rattle.cg_name.specs.Path.{Path, is_root, is_prefix, is_parent}
use Rattle.cg_text.specs.declared.settings.Settings.{Settings}
use Rattle.cg_model.specs.Tree.{Tree, group, place_of, parent_group}
use Rattle.cg_model.specs.Derived.{available, with_cpuset, has_freeze, is_frozen, is_populated, populated, frozen, effective}
use Rattle.cg_model.specs.Sound.{Sound}

-- the parent's settings are those at the path whose child the path is
abbrev pub ParentGroups : Type 0
ParentGroups = (T : Tree) (p q : Path) → is_parent p q ≡ true → parent_group T q ≡ group T p

-- a group below the root has both values
abbrev pub ValuesBelowRoot : Type 0
ValuesBelowRoot = (T : Tree) (p : Path) (s : Settings) → group T p ≡ Some s → is_root p ≡ false → (populated T p ≡ Some (is_populated T p)) × (frozen T p ≡ Some (is_frozen T p))

-- it is populated where the place of some process begins with its path
abbrev pub PopulatedBelow : Type 0
PopulatedBelow = (T : Tree) (p : Path) (s : Settings) → group T p ≡ Some s → is_root p ≡ false
    → (populated T p ≡ Some true) ↔ ((k : ℕ) × (q : Path) × (place_of T k ≡ Some q) × (is_prefix p q ≡ true))

-- and frozen where its own freeze value or that of a group above it, the root apart, is 1
abbrev pub FrozenAbove : Type 0
FrozenAbove = (T : Tree) (p : Path) (s : Settings) → group T p ≡ Some s → is_root p ≡ false
    → (frozen T p ≡ Some true) ↔ ((q : Path) × (is_root q ≡ false) × (is_prefix q p ≡ true) × (has_freeze (group T q) ≡ true))

-- the root has neither, and an absent group has no value
abbrev pub NoValues : Type 0
NoValues = (T : Tree) → (populated T [] ≡ None) × (frozen T [] ≡ None) × ((p : Path) → group T p ≡ None → (populated T p ≡ None) × (frozen T p ≡ None) × (effective T p ≡ None))

-- the root's effective CPUs are the online ones, where the machine has the cpuset controller
abbrev pub EffectiveOfRoot : Type 0
EffectiveOfRoot = (T : Tree) (s : Settings) → group T [] ≡ Some s → effective T [] ≡ cond T.controllers.cpuset (Some T.online) None

-- another group's, where it has the controller, are those that it has in common with its parent's, and its parent's where
-- these are none
abbrev pub EffectiveOfChild : Type 0
EffectiveOfChild = (T : Tree) → Sound T → (p q : Path) (s : Settings) → is_parent p q ≡ true → group T q ≡ Some s → with_cpuset (available T q) ≡ true
    → (e : FiniteSet) × (effective T p ≡ Some e) × (effective T q ≡ Some (cond (is_empty_set (in_common s.cpus e)) e (in_common s.cpus e)))

-- and without it there are none
abbrev pub EffectiveNeedsCpuset : Type 0
EffectiveNeedsCpuset = (T : Tree) (p : Path) → with_cpuset (available T p) ≡ false → effective T p ≡ None
