-- What JSON tells of a group, in an outline of those of at most so many names.
use Rattle.std.specs.Prelude.{ℕ, cond, nat_le, List, [], ◌∷◌, map, Option, Some, None, length, codes, unwrap_or}
use Rattle.json.specs.Json.{Json}
use Rattle.cg_json.specs.Text.{array, flag, flag_or_null, json_line, null, number, object, string}
use Rattle.cg_json_world.specs.Values.{controllers_value, cpus_value, limit_value, path_value}
use Rattle.cg_maps.specs.FiniteSet.{FiniteSet}
use Rattle.cg_name.specs.Path.{Path}
use Rattle.cg_cpus.specs.CpuList.{cpus_text}
use Rattle.cg_text.specs.Controllers.{no_controllers}
use Rattle.cg_text.specs.declared.controllers.Controllers.{Controllers}
use Rattle.cg_text.specs.declared.settings.Settings.{Settings}
use Rattle.cg_model.specs.Derived.{available, descendants, effective, frozen, populated, processes}
use Rattle.cg_model.specs.Tree.{Tree}

-- the controllers that a group has; one that isn't there has none
abbrev pub controllers_of : Tree → Path → Controllers
controllers_of T p = unwrap_or (available T p) no_controllers

-- the effective CPUs, where the group has cpuset
abbrev pub effective_value : Option FiniteSet → Json
effective_value None = null
effective_value (Some s) = string (cpus_text s)

-- processes, by ascending PID
unfoldable pub pids_value : List ℕ → Json
pids_value pids = array (map number pids)

-- how many groups are left out below a group
abbrev pub left_out : ℕ → Tree → Path → ℕ
left_out depth T p = cond (nat_le depth (length p)) (descendants T p) 0

-- what a group asks for and has
abbrev pub group_value : ℕ → Tree → Path × Settings → Json
group_value depth T e =
    object (
    (codes "path", path_value e.0)
    ∷ (codes "controllers", controllers_value (controllers_of T e.0))
    ∷ (codes "control", controllers_value e.1.control)
    ∷ (codes "cpus", cpus_value e.1.cpus)
    ∷ (codes "effective", effective_value (effective T e.0))
    ∷ (codes "descendants", number (descendants T e.0))
    ∷ (codes "max_descendants", limit_value e.1.max_descendants)
    ∷ (codes "max_depth", limit_value e.1.max_depth)
    ∷ (codes "freeze", flag e.1.freeze)
    ∷ (codes "frozen", flag_or_null (frozen T e.0))
    ∷ (codes "populated", flag_or_null (populated T e.0))
    ∷ (codes "pids", pids_value (processes T e.0))
    ∷ (codes "below", number (left_out depth T e.0))
    ∷ []
    )

-- its line
unfoldable pub group_line : ℕ → Tree → Path × Settings → List ℕ
group_line depth T e = json_line (group_value depth T e)

-- ---- the last fields, for private clauses

abbrev pub process_fields : ℕ → Tree → Path → List (List ℕ × Json)
process_fields depth T p = (codes "pids", pids_value (processes T p)) ∷ (codes "below", number (left_out depth T p)) ∷ []

abbrev pub state_fields : ℕ → Tree → Path × Settings → List (List ℕ × Json)
state_fields depth T e =
    (codes "freeze", flag e.1.freeze)
    ∷ (codes "frozen", flag_or_null (frozen T e.0))
    ∷ (codes "populated", flag_or_null (populated T e.0))
    ∷ process_fields depth T e.0

abbrev pub limit_fields : ℕ → Tree → Path × Settings → List (List ℕ × Json)
limit_fields depth T e =
    (codes "descendants", number (descendants T e.0))
    ∷ (codes "max_descendants", limit_value e.1.max_descendants)
    ∷ (codes "max_depth", limit_value e.1.max_depth)
    ∷ state_fields depth T e

abbrev pub cpus_fields : ℕ → Tree → Path × Settings → List (List ℕ × Json)
cpus_fields depth T e = (codes "cpus", cpus_value e.1.cpus) ∷ (codes "effective", effective_value (effective T e.0)) ∷ limit_fields depth T e

abbrev pub control_fields : ℕ → Tree → Path × Settings → List (List ℕ × Json)
control_fields depth T e = (codes "control", controllers_value e.1.control) ∷ cpus_fields depth T e

abbrev pub controller_fields : ℕ → Tree → Path × Settings → List (List ℕ × Json)
controller_fields depth T e = (codes "controllers", controllers_value (controllers_of T e.0)) ∷ control_fields depth T e
