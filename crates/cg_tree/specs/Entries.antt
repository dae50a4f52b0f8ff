-- What the nodes of the tree of groups hold: the settings of each group, and how many groups are below each path.
use Rattle.std.specs.Prelude.{◌≡◌, ◌<◌, ◌+◌, ◌-◌, ◌^◌, ℕ, Bool, true, false, cond, Option, Some}
use Rattle.cg_maps.specs.FiniteMap.{FiniteMap, get, len, retain}
use Rattle.cg_name.specs.declared.controller.Controller.{Controller}
use Rattle.cg_name.specs.Path.{Path, path_cmp, is_above, is_parent}
use Rattle.cg_path_tree.specs.declared.node.NodeKey.{NodeKey}
use Rattle.cg_path_tree.specs.Nodes.{Nodes, path_of}
use Rattle.cg_text.specs.declared.controllers.Controllers.{Controllers}
use Rattle.cg_text.specs.declared.settings.Settings.{Settings}
use Rattle.cg_tree.specs.declared.entry.Entry.{Entry}
use Rattle.cg_tree.specs.declared.passing.Passing.{Passing}
use Rattle.cg_tree.specs.Passing.{passing_count, stepped_if, times}
use Rattle.cg_tree.specs.Present.{present}
use Rattle.cg_tree.specs.Seen.{seen_map}

abbrev pub settings_of : Entry → Option Settings
settings_of e = e.settings

-- the map of the settings
abbrev pub groups_in : FiniteMap path_cmp Entry → FiniteMap path_cmp (Option Settings)
groups_in m = seen_map settings_of m

abbrev pub populated_by_of : Entry → ℕ
populated_by_of e = e.populated_by

-- the map of the counts of what each path is populated by
abbrev pub held_in : FiniteMap path_cmp Entry → FiniteMap path_cmp ℕ
held_in m = seen_map populated_by_of m

abbrev pub passing_of : Entry → Passing
passing_of e = e.passing

-- the map of the counts of groups that pass on controllers
abbrev pub passing_in : FiniteMap path_cmp Entry → FiniteMap path_cmp Passing
passing_in m = seen_map passing_of m

-- the number of groups at paths that pass a test
abbrev pub group_count : FiniteMap path_cmp (Option Settings) → (Path → Bool) → ℕ
group_count m test = len (retain (present m) test)

-- the counts of groups of an entry are those of its path
pub record IsCountedBelow (m : FiniteMap path_cmp (Option Settings)) (p : Path) (e : Entry) : Type 0 where
  pub below : e.below ≡ group_count m (is_above p)
  pub right_below : e.right_below ≡ group_count m (is_parent p)

-- each entry has the counts of groups of its path
abbrev pub AreCountedBelow : FiniteMap path_cmp Entry → Type 0
AreCountedBelow m = (p : Path) (e : Entry) → get m p ≡ Some e → IsCountedBelow (groups_in m) p e

-- and the counts of those that pass on a controller
pub record IsCounted (m : FiniteMap path_cmp (Option Settings)) (p : Path) (e : Entry) : Type 0 where
  pub groups : IsCountedBelow m p e
  pub passing : (c : Controller) → times e.passing c ≡ passing_count m p c

-- each entry has the counts of its path
abbrev pub AreCounted : FiniteMap path_cmp Entry → Type 0
AreCounted m = (p : Path) (e : Entry) → get m p ≡ Some e → IsCounted (groups_in m) p e

-- ---- a group or a process that comes or goes

-- the count with one more or one less
abbrev pub counted : Bool → ℕ → ℕ
counted comes n = cond comes (n + 1) (n - 1)

-- where it is counted
abbrev pub counted_if : Bool → Bool → ℕ → ℕ
counted_if comes here n = cond here (counted comes n) n

-- the count can be so changed
abbrev pub CanCount : Bool → ℕ → Type 0
CanCount true n = n + 1 < 2 ^ 32
CanCount false n = 0 < n

-- the entry with the count of those below changed, where it is counted
abbrev pub with_below : Bool → Bool → Entry → Entry
with_below comes here e = record e { below = counted_if comes here e.below }

-- with the count of what it is populated by changed
abbrev pub with_populated_by : Bool → Bool → Entry → Entry
with_populated_by comes here e = record e { populated_by = counted_if comes here e.populated_by }

-- the entry with the count of those right below changed, where it is counted
abbrev pub with_right_below : Bool → Bool → Entry → Entry
with_right_below comes here e = record e { right_below = counted_if comes here e.right_below }

-- the entry with the counts of those that pass on a controller changed, where the group is counted: it passes on the second
-- set in place of the first
abbrev pub with_passing : Controllers → Controllers → Bool → Entry → Entry
with_passing before after here e = record e { passing = stepped_if here before after e.passing }

-- ---- nodes

-- the path of a node
abbrev pub path_at : Nodes Entry → NodeKey → Path
path_at nodes key = path_of nodes.keys key

-- what a node holds
abbrev pub entry_at : Nodes Entry → NodeKey → Option Entry
entry_at nodes key = get nodes.values (path_at nodes key)
