-- The parts of a tree's soundness, each of which is one question of the code.
use Rattle.std.specs.Prelude.{◌≡◌, ◌↔◌, ℕ, nat_eq, Bool, true, List, [], Some, None}
use Rattle.std.specs.Borrow.{Bor}
use Rattle.std.specs.Cmp.Lexicographic.{pointwise}
use Rattle.std.specs.List.{list_any}
use Rattle.cg_maps.specs.FiniteMap.{FiniteMap, get}
use Rattle.cg_name.specs.Path.{Path, path_cmp, is_parent}
use Rattle.cg_text.specs.declared.settings.Settings.{Settings}
use Rattle.cg_model.specs.Tree.{Tree, group, place_of}
use Rattle.cg_model.specs.Sound.{IsChildOf, IsRootOf, admits}

-- the group at this path has these settings
abbrev pub HasGroup : Tree → Path → Settings → Type 0
HasGroup T p s = group T p ≡ Some s

-- the group at q has the settings u, and is the parent of that at p
abbrev pub HasParent : Tree → Path → Settings → Path → Type 0
HasParent T q u p = (group T q ≡ Some u) × (is_parent q p ≡ true)

-- no group is the parent of that at p
abbrev pub HasNoParent : Tree → Path → Type 0
HasNoParent T p = (q : Path) → is_parent q p ≡ true → group T q ≡ None

-- the root is a group with a root's settings
abbrev pub HasSoundRoot : Tree → Type 0
HasSoundRoot T = (s : Settings) × (group T [] ≡ Some s) × IsRootOf T s

-- a group with these settings may be at this path: its parent is a group with settings that allow it
abbrev pub IsSoundGroup : Tree → Path → Settings → Type 0
IsSoundGroup T p s = (q : Path) → is_parent q p ≡ true → (u : Settings) × (group T q ≡ Some u) × IsChildOf u s

-- each group may be where it is
abbrev pub HasSoundGroups : Tree → Type 0
HasSoundGroups T = (p : Path) (s : Settings) → group T p ≡ Some s → IsSoundGroup T p s

-- of these groups, the one at the path is there and may have processes
abbrev pub IsPlaceIn : FiniteMap path_cmp Settings → Path → Type 0
IsPlaceIn groups p = (s : Settings) × (get groups p ≡ Some s) × (admits p s ≡ true)

-- the path is that of a group that may have processes
abbrev pub IsSoundPlace : Tree → Path → Type 0
IsSoundPlace T p = IsPlaceIn T.groups p

-- whether one of the references leads to the path
abbrev pub leads_to : List (Bor Path) → Path → Bool
leads_to ps p = list_any (λ q. pointwise (pointwise nat_eq) p q.now) ps

-- the references lead to the paths of the groups that may have processes, and to no others
abbrev pub AreSoundPlaces : Tree → List (Bor Path) → Type 0
AreSoundPlaces T ps = (p : Path) → (leads_to ps p ≡ true) ↔ IsSoundPlace T p

-- each process may be where it is
abbrev pub HasSoundPlaces : Tree → Type 0
HasSoundPlaces T = (k : ℕ) (p : Path) → place_of T k ≡ Some p → IsSoundPlace T p
