-- Trees as they are made: with nothing in them, and with one group or one process more.
use Rattle.std.specs.Prelude.{ℕ, Some}
use Rattle.cg_maps.specs.FiniteMap.{empty, set_at}
use Rattle.cg_maps.specs.FiniteSet.{FiniteSet}
use Rattle.cg_name.specs.Path.{Path}
use Rattle.cg_text.specs.declared.controllers.Controllers as controllers
use Rattle.cg_text.specs.declared.settings.Settings.{Settings}
use Rattle.cg_model.specs.Tree.{Tree}

-- a tree of no groups and no processes
abbrev pub bare_tree : controllers.Controllers → FiniteSet → Tree
bare_tree cs online = record { controllers = cs; online = online; groups = empty; places = empty }

-- the tree with one group more
abbrev pub with_group : Tree → Path → Settings → Tree
with_group T p s = record T { groups = set_at T.groups p (Some s) }

-- the tree with one process more
abbrev pub with_process : Tree → ℕ → Path → Tree
with_process T k p = record T { places = set_at T.places k (Some p) }
