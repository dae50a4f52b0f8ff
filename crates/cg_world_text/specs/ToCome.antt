-- What is still to come of the text that is written for a tree.
use Rattle.std.specs.Prelude.{ℕ, List, [], ◌++◌, codes}
use Rattle.std.specs.List.{flat_map}
use Rattle.cg_name.specs.Path.{Path}
use Rattle.cg_text.specs.declared.settings.Settings.{Settings}
use Rattle.cg_model.specs.Tree.{Tree}
use Rattle.cg_world_text.specs.declared.tree_writing.Coming.{Coming}
use Rattle.cg_world_text.specs.declared.tree_writing.Coming.TheVariants.{Head, Lists, Nothing}
use Rattle.cg_world_text.specs.declared.version.Version.{Version}
use Rattle.cg_world_text.specs.World.{group_line, newline, process_line}
use Rattle.cg_world_text.specs.Writing.{head_lines}

-- the lines of these groups, those of these processes, and the last one
abbrev pub listed_lines : Version → List (Path × Settings) → List (ℕ × Path) → List ℕ
listed_lines v groups processes = flat_map (group_line v) groups ++ (flat_map process_line processes ++ (codes "end" ++ newline))

-- the lines from there on, where these groups and processes are left
abbrev pub lines_to_come : Coming → Version → Tree → List (Path × Settings) → List (ℕ × Path) → List ℕ
lines_to_come Head v T groups processes = head_lines v T.controllers T.online ++ listed_lines v groups processes
lines_to_come Lists v T groups processes = listed_lines v groups processes
lines_to_come Nothing v T groups processes = []
