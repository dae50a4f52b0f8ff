-- How far a walk over the operations of a machine's committed scripts has come.
use Rattle.std.specs.Prelude.{◌-◌, List, drop, Option}
use Rattle.cg_model.specs.Command.{Command}
use Rattle.cg_model.specs.Opens.{commits}
use Rattle.cg_view.specs.Committed.{scripts_behind}
use Rattle.cg_view.specs.declared.walk.Walk.{Walk}

-- the operations that are still to come
abbrev pub left : Walk → List (Option Command)
left w = drop w.commands (scripts_behind w.scripts (commits w.core.now.history - w.scripts) w.core.now.history)
