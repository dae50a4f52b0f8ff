-- Trees by the entries of their groups and processes.
use Rattle.std.specs.Prelude.{ℕ, List}
use Rattle.std.specs.Ordering.{nat_cmp}
use Rattle.cg_maps.specs.FiniteMap.{from_entries}
use Rattle.cg_maps.specs.FiniteSet.{FiniteSet}
use Rattle.cg_name.specs.Path.{Path, path_cmp}
use Rattle.cg_text.specs.declared.controllers.Controllers as controllers
use Rattle.cg_text.specs.declared.settings.Settings.{Settings}
use Rattle.cg_model.specs.Tree.{Tree}

-- the tree of these groups and processes
abbrev pub tree_of_entries : controllers.Controllers → FiniteSet → List (Path × Settings) → List (ℕ × Path) → Tree
tree_of_entries cs online groups places = record { controllers = cs; online = online; groups = from_entries path_cmp groups; places = from_entries nat_cmp places }
