use Rattle.std.proofs.Common.{◌↔◌, map, drop}
use Rattle.cg_text.specs.Controllers.{no_controllers}
use Rattle.cg_text.specs.declared.controllers.Controllers.{Controllers}
use Rattle.cg_world_text.specs.Statement.{AddsControllers}
use Rattle.cg_world_text.proofs.parts.read_controllers.Given as goal

-- what is left, added to what was read, is what all names are
abbrev pub invariant-loop-name : goal.invariant-loop-name
invariant-loop-name l = (all : Controllers) → AddsControllers no_controllers (map (λ w. w.now) l.names) all ↔ AddsControllers l.set (map (λ w. w.now) (drop l.name-index l.names)) all
