-- What a tree holds at its paths: the settings of each group, and the group of each process.
use Rattle.std.specs.Prelude.{◌≡◌, ℕ, ◌<◌, ◌+◌, ◌&&◌, nat_lt, Bool, Option, Some, refl}
use Rattle.std.specs.Coded.{Coded, code_by, coded×, coded_ℕ, coded_option}
use Rattle.std.specs.Ordering.{nat_cmp}
use Rattle.cg_maps.specs.FiniteMap.{FiniteMap, get, len, retain}
use Rattle.cg_maps.specs.Code.{map_code}
use Rattle.cg_model.specs.Code.{path_code, settings_code}
use Rattle.cg_model.specs.Derived.{is_in, is_in_subtree}
use Rattle.cg_name.specs.Path.{Path, path_cmp, is_parent}
use Rattle.cg_path_tree.specs.declared.node.NodeKey.{NodeKey}
use Rattle.cg_path_tree.specs.Nodes.{Nodes, path_of, IsKey}
use Rattle.cg_places.specs.Located.{Located}
use Rattle.cg_text.specs.declared.settings.Settings.{Settings}
use Rattle.cg_tree.specs.declared.entry.Entry.{Entry}
use Rattle.cg_tree.specs.Entries.{groups_in, held_in, AreCounted}
use Rattle.cg_tree.specs.Seen.{seen_map}

pub record Contents : Type 0 where
  -- the settings of each group, and nothing at each dead path
  pub groups : FiniteMap path_cmp (Option Settings)
  -- the path of each process's group
  pub places : FiniteMap nat_cmp Path

abbrev pub contents_code : Coded Contents
contents_code =
    code_by (FiniteMap path_cmp (Option Settings) × FiniteMap nat_cmp Path)
    (coded× (map_code path_code (coded_option settings_code)) (map_code coded_ℕ path_code))
    (λ c. (c.groups, c.places))
    (λ p. record { groups = p.0; places = p.1 })
    (λ _. refl)

-- ---- processes by the numbers of nodes

abbrev pub numbered : ℕ → NodeKey
numbered n = record { 0 = n }

-- the path of the node with the number
abbrev pub path_numbered : FiniteMap path_cmp NodeKey → ℕ → Path
path_numbered keys n = path_of keys (numbered n)

-- the paths of the processes' groups
abbrev pub places_in : FiniteMap path_cmp NodeKey → FiniteMap nat_cmp ℕ → FiniteMap nat_cmp Path
places_in keys numbers = seen_map (path_numbered keys) numbers

abbrev pub contents_of : Nodes Entry → Located → Contents
contents_of nodes located = record { groups = groups_in nodes.values; places = places_in nodes.keys located.places }

-- each process is in the group of a node
abbrev pub AreAtNodes : FiniteMap path_cmp NodeKey → FiniteMap nat_cmp ℕ → Type 0
AreAtNodes keys numbers = (pid n : ℕ) → get numbers pid ≡ Some n → IsKey keys (numbered n)

-- a process can be put into the group of each node
abbrev pub HaveNumbers : FiniteMap path_cmp NodeKey → ℕ → Type 0
HaveNumbers keys most = (key : NodeKey) → IsKey keys key → key.0 < most

-- ---- processes by the paths of their groups

-- the number of processes in the group at p
abbrev pub own_count : FiniteMap nat_cmp Path → Path → ℕ
own_count places p = len (retain places (λ pid. is_in p (get places pid)))

-- and in those below it too
abbrev pub process_count : FiniteMap nat_cmp Path → Path → ℕ
process_count places p = len (retain places (λ pid. is_in_subtree p (get places pid)))

-- some process is there
abbrev pub populated : FiniteMap nat_cmp Path → Path → Bool
populated places p = nat_lt 0 (process_count places p)

-- how many of the paths with a count are right below p and populated
abbrev pub populated_children : FiniteMap path_cmp ℕ → FiniteMap nat_cmp Path → Path → ℕ
populated_children held places p = len (retain held (λ q. is_parent p q && populated places q))

-- what is counted at p: its own processes, and the populated ones right below it
abbrev pub counted_at : FiniteMap path_cmp ℕ → FiniteMap nat_cmp Path → Path → ℕ
counted_at held places p = own_count places p + populated_children held places p

-- each count is that of its path
abbrev pub AreHeld : FiniteMap path_cmp ℕ → FiniteMap nat_cmp Path → Type 0
AreHeld held places = (p : Path) (n : ℕ) → get held p ≡ Some n → n ≡ counted_at held places p

-- what holds of the nodes and the processes
pub record AreKept (nodes : Nodes Entry) (located : Located) : Type 0 where
  pub counted : AreCounted nodes.values
  pub held : AreHeld (held_in nodes.values) (places_in nodes.keys located.places)
  pub placed : AreAtNodes nodes.keys located.places
  pub numbers : HaveNumbers nodes.keys located.groups
