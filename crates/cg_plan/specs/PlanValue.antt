-- Commands as lines of JSON.
use Rattle.std.specs.Prelude.{◌≡◌, ℕ, ◌+◌, false, List, [], ◌∷◌, ◌++◌, map, codes}
use Rattle.json.specs.Json.{Json}
use Rattle.cg_json.specs.Text.{json_line, number, object, string}
use Rattle.cg_command_text.specs.CommandText.{command_text}
use Rattle.cg_model.specs.Command.{Command}
use Rattle.cg_model.specs.Tree.{Tree}
use Rattle.cg_script.specs.Script.{SpellsScript}
use Rattle.cg_plan.specs.Leads.{Leads, asked_for}

-- the command on this line of a script: the number of the line, and the words that are written for the command
abbrev pub command_value : ℕ → Command → Json
command_value line c = object ((codes "line", number line) ∷ (codes "request", string (command_text c)) ∷ [])

-- these commands, each on a line of its own, from this line of the script on
abbrev pub command_lines : ℕ → List Command → List ℕ
command_lines line [] = []
command_lines line (c ∷ cs) = json_line (command_value line c) ++ command_lines (line + 1) cs

-- a text tells of a script as JSON: of these commands, the first of them on line 1, and of no other request
pub record IsInJson (script text : List ℕ) : Type 0 where
  pub commands : List Command
  pub spelled : SpellsScript script (map asked_for commands) false
  pub lines : text ≡ command_lines 1 commands

-- it tells of a script that leads from the one tree to the other
pub record LeadsAsJson (text : List ℕ) (A B : Tree) : Type 0 where
  pub script : List ℕ
  pub leads : Leads script A B
  pub told : IsInJson script text

-- ---- the last field, for a private clause

abbrev pub request_fields : Command → List (List ℕ × Json)
request_fields c = (codes "request", string (command_text c)) ∷ []
