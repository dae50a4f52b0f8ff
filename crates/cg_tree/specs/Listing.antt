-- Groups as they are listed of nodes.
use Rattle.std.specs.Prelude.{◌≡◌, ℕ, Bool, false, not, List, [], ◌∷◌, Option, None, Some, option_map, slice_get}
use Rattle.std.specs.Option.{option_flatten}
use Rattle.cg_maps.specs.FiniteSet.{is_empty_set}
use Rattle.cg_name.specs.Path.{Path}
use Rattle.cg_path_tree.specs.declared.node.NodeKey.{NodeKey}
use Rattle.cg_path_tree.specs.Nodes.{Nodes, IsKey}
use Rattle.cg_text.specs.declared.settings.Settings.{Settings}
use Rattle.cg_tree.specs.declared.entry.Entry.{Entry}
use Rattle.cg_tree.specs.Entries.{entry_at, path_at, settings_of}
use Rattle.cg_tree.specs.Present.{with_held}

-- each of the keys is that of a node
abbrev pub AreKeys : Nodes Entry → List NodeKey → Type 0
AreKeys nodes ks = (i : ℕ) (k : NodeKey) → slice_get ks i ≡ Some k → IsKey nodes.keys k

-- the settings of a node's group, none at a dead path
abbrev pub settings_at : Nodes Entry → NodeKey → Option Settings
settings_at nodes k = option_flatten (option_map settings_of (entry_at nodes k))

-- the group asks for CPUs
abbrev pub asks_for_cpus : Path × Settings → Bool
asks_for_cpus e = not (is_empty_set e.1.cpus)

-- the settings are those of a group that does
abbrev pub asks : Option Settings → Bool
asks None = false
asks (Some s) = not (is_empty_set s.cpus)

-- the node is that of a group that does
abbrev pub asks_at : Nodes Entry → NodeKey → Bool
asks_at nodes k = asks (settings_at nodes k)

-- the groups among the nodes
abbrev pub listed : Nodes Entry → List NodeKey → List (Path × Settings)
listed nodes [] = []
listed nodes (k ∷ ks) = with_held (path_at nodes k) (settings_at nodes k) (listed nodes ks)
