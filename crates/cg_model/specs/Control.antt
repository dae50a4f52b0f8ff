-- Writing cgroup.subtree_control (cgroup-v2, Controlling Controllers: Enabling and Disabling; Top-down Constraint;
-- No Internal Process Constraint, which this project applies to all controllers alike).
use Rattle.std.specs.Prelude.{Bool, cond, not, ◌&&◌, ◌||◌, List, [], ◌∷◌, filter, Option, Some, None, Result, Ok, Err}
use Rattle.std.specs.List.{list_any}
use Rattle.cg_maps.specs.FiniteMap.{empty}
use Rattle.cg_maps.specs.FiniteSet.{is_empty_set}
use Rattle.cg_name.specs.Path.{Path, is_root}
use Rattle.cg_name.specs.declared.controller.Controller.{Controller}
use Rattle.cg_name.specs.declared.refusal.Refusal.{Refusal}
use Rattle.cg_name.specs.declared.refusal.Refusal.TheVariants.{NoGroup, HasProcesses, Unavailable, InUse}
use Rattle.cg_text.specs.Controllers.{has, such_that, all_controllers, is_no_controllers}
use Rattle.cg_text.specs.declared.control_ops.ControlOps.{ControlOps}
use Rattle.cg_text.specs.declared.controllers.Controllers.{Controllers}
use Rattle.cg_text.specs.declared.settings.Settings.{Settings}
use Rattle.cg_model.specs.Key.{Control, Cpus, Part}
use Rattle.cg_model.specs.Change.{Change, change}
use Rattle.cg_model.specs.System.{Done, Refuse, Accept}
use Rattle.cg_model.specs.Command.{Effect}

-- the set after the operations (Core Interface Files: cgroup.subtree_control)
abbrev pub planned : Controllers → ControlOps → Controllers
planned s ops = such_that (λ c. (has s c || has ops.plus c) && not (has ops.minus c))

-- those to be enabled that are neither enabled nor available, in the kernel's order (Enabling and Disabling)
abbrev pub not_available : Controllers → Controllers → ControlOps → List Controller
not_available a s ops = filter (λ c. has ops.plus c && not (has s c) && not (has a c)) all_controllers

-- those to be disabled that are enabled and that a child uses, in the kernel's order (Top-down Constraint)
abbrev pub in_use : Controllers → ControlOps → Controllers → List Controller
in_use s ops used = filter (λ c. has ops.minus c && has s c && has used c) all_controllers

-- refused for the first of a list, if there is one
abbrev pub refuse_first : (Controller → Refusal) → List Controller → Result Controllers Refusal → Result Controllers Refusal
refuse_first f [] r = r
refuse_first f (c ∷ cs) r = Err (f c)

-- the set that a write leaves, or why it is refused: by what is available, what is enabled, the operations, what the children
-- use, whether the group has processes of its own, and whether it is the root (No Internal Process Constraint)
abbrev pub plan : Controllers → Controllers → ControlOps → Controllers → Bool → Bool → Result Controllers Refusal
plan a s ops used processes root =
    refuse_first Unavailable (not_available a s ops) (refuse_first InUse (in_use s ops used)
    (cond (not root && processes && not (is_no_controllers (planned s ops))) (Err HasProcesses) (Ok (planned s ops))))

-- the controllers that a child has in its own control
abbrev pub used_below : List (Path × Settings) → Controllers
used_below children = such_that (λ c. list_any (λ e. has e.1.control c) children)

-- the CPUs of each child that asks for some are emptied, and then the last changes are made (this project's own choice)
abbrev pub emptied : List (Path × Settings) → List Change → List Change
emptied [] last = last
emptied (e ∷ es) last = cond (is_empty_set e.1.cpus) (emptied es last) (change (Part e.0 Cpus) (Some e.1.cpus) (Some empty) ∷ emptied es last)

-- cpuset is in the first set and not in the second
abbrev pub loses_cpuset : Controllers → Controllers → Bool
loses_cpuset s t = s.cpuset && not t.cpuset

-- the group passes on t in place of s
abbrev pub control_change : Path → Controllers → Controllers → List Change
control_change p s t = change (Part p Control) (Some s) (Some t) ∷ []

-- where cpuset goes, the children's CPUs are emptied; they come first, so that each change by itself keeps a tree sound
abbrev pub controlled : Path → Controllers → Controllers → List (Path × Settings) → List Change
controlled p s t children = emptied (cond (loses_cpuset s t) children []) (control_change p s t)

-- by the path, the group's control, its children, and what is planned
abbrev pub by_plan : Path → Controllers → List (Path × Settings) → Result Controllers Refusal → Effect
by_plan p s children (Err r) = Refuse r
by_plan p s children (Ok t) = Accept Done (controlled p s t children)

-- by the path, the operations, the group's settings, what is available, the children, and whether there are processes of its own
abbrev pub subtree_effect : Path → ControlOps → Option Settings → Option Controllers → List (Path × Settings) → Bool → Effect
subtree_effect p ops None a children processes = Refuse NoGroup
subtree_effect p ops (Some s) None children processes = Refuse NoGroup
subtree_effect p ops (Some s) (Some a) children processes = by_plan p s.control children (plan a s.control ops (used_below children) processes (is_root p))
