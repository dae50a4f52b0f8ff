use Rattle.std.proofs.Common.{◌==◌, ◌↔◌, length, drop}
use Rattle.std.specs.List.{slice_split}
use Rattle.cg_text.specs.Controllers.{no_controllers}
use Rattle.cg_text.specs.declared.controllers.Controllers.{Controllers}
use Rattle.cg_world_text.specs.Statement.{AddsControllers}
use Rattle.cg_world_text.proofs.parts.read_control.Given as goal

-- what is left, added to what was read, is what all names are
abbrev pub invariant-loop-name : goal.invariant-loop-name
invariant-loop-name l =
    (all : Controllers) → AddsControllers no_controllers (slice_split (λ b. b == 44) l.fn.word) all ↔ AddsControllers l.set (drop (length l.yielded) (slice_split (λ b. b == 44) l.fn.word)) all
