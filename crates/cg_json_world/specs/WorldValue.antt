-- What is told of a tree: the statements of its world's text, but for its version, which follows from these.
use Rattle.std.specs.Prelude.{ℕ, List, [], ◌∷◌, map, codes}
use Rattle.json.specs.Json.{Json}
use Rattle.cg_json.specs.Text.{array, flag, json_line, number, object}
use Rattle.cg_json_world.specs.Values.{controllers_value, cpus_value, limit_value, path_value}
use Rattle.cg_maps.specs.FiniteMap.{entries}
use Rattle.cg_name.specs.Path.{Path}
use Rattle.cg_text.specs.declared.settings.Settings.{Settings}
use Rattle.cg_model.specs.Tree.{Tree}

abbrev pub group_value : Path × Settings → Json
group_value e =
    object (
    (codes "path", path_value e.0)
    ∷ (codes "control", controllers_value e.1.control)
    ∷ (codes "freeze", flag e.1.freeze)
    ∷ (codes "cpus", cpus_value e.1.cpus)
    ∷ (codes "max_descendants", limit_value e.1.max_descendants)
    ∷ (codes "max_depth", limit_value e.1.max_depth)
    ∷ []
    )

abbrev pub process_value : ℕ × Path → Json
process_value e = object ((codes "pid", number e.0) ∷ (codes "path", path_value e.1) ∷ [])

unfoldable pub groups_value : List (Path × Settings) → Json
groups_value es = array (map group_value es)

unfoldable pub processes_value : List (ℕ × Path) → Json
processes_value es = array (map process_value es)

-- the groups in the order of their paths, the processes by ascending PID
abbrev pub world_value : Tree → Json
world_value T =
    object (
    (codes "controllers", controllers_value T.controllers)
    ∷ (codes "online", cpus_value T.online)
    ∷ (codes "groups", groups_value (entries T.groups))
    ∷ (codes "processes", processes_value (entries T.places))
    ∷ []
    )

unfoldable pub world_line : Tree → List ℕ
world_line T = json_line (object ((codes "world", world_value T) ∷ []))

-- ---- the last fields, for private clauses

abbrev pub limit_fields : Settings → List (List ℕ × Json)
limit_fields s = (codes "max_descendants", limit_value s.max_descendants) ∷ (codes "max_depth", limit_value s.max_depth) ∷ []

abbrev pub settings_fields : Settings → List (List ℕ × Json)
settings_fields s = (codes "control", controllers_value s.control) ∷ (codes "freeze", flag s.freeze) ∷ (codes "cpus", cpus_value s.cpus) ∷ limit_fields s

abbrev pub content_fields : Tree → List (List ℕ × Json)
content_fields T = (codes "groups", groups_value (entries T.groups)) ∷ (codes "processes", processes_value (entries T.places)) ∷ []

abbrev pub online_fields : Tree → List (List ℕ × Json)
online_fields T = (codes "online", cpus_value T.online) ∷ content_fields T
