-- The settings of a group.
use Rattle.std.specs.Prelude.{false}
use Rattle.cg_maps.specs.FiniteMap.{empty}
use Rattle.cg_text.specs.Controllers.{no_controllers}
use Rattle.cg_text.specs.declared.limit.Limit.TheVariants.{Max}
use Rattle.cg_text.specs.declared.settings.Settings.{Settings}

-- what a new group has
abbrev pub fresh : Settings
fresh = record { control = no_controllers; freeze = false; cpus = empty; max_descendants = Max; max_depth = Max }
