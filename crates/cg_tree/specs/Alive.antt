-- Entries none of which is dead.
use Rattle.std.specs.Prelude.{◌≡◌, true, Option, IsSome}
use Rattle.std.specs.Option.{option_flatten}
use Rattle.cg_maps.specs.FiniteMap.{FiniteMap, get}
use Rattle.cg_model.specs.Tree.{group}
use Rattle.cg_name.specs.Path.{Path, path_cmp}
use Rattle.cg_text.specs.declared.settings.Settings.{Settings}
use Rattle.cg_tree.specs.Room.{TreeWithRoom, has_entry}

-- each path that has an entry is a group's
abbrev pub AreGroups : TreeWithRoom → Type 0
AreGroups t = (p : Path) → has_entry t p ≡ true → IsSome (group t.tree p)

-- each path of the map has settings
abbrev pub HaveSettings : FiniteMap path_cmp (Option Settings) → Type 0
HaveSettings m = (p : Path) → IsSome (get m p) → IsSome (option_flatten (get m p))
