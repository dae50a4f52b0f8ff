-- What JSON tells of an interface file of a group, in the world at the head of a text.
use Rattle.std.specs.Prelude.{◌≡◌, ℕ, List, [], ◌∷◌, Option, Ok, codes}
use Rattle.json.specs.Json.{Json}
use Rattle.cg_json.specs.Text.{json_line, object, string}
use Rattle.cg_json_world.specs.Values.{path_value}
use Rattle.cg_name.specs.FileName.{file_word}
use Rattle.cg_name.specs.Path.{Path, SpellsPath}
use Rattle.cg_name.specs.declared.file_name.FileName.{FileName}
use Rattle.cg_program.specs.Show.{IsFileOf}

-- the path of the group, the name of the file and its text
abbrev pub file_value : Path → FileName → List ℕ → Json
file_value p f text = object ((codes "path", path_value p) ∷ (codes "file", string (file_word f)) ∷ (codes "text", string text) ∷ [])

-- its line
unfoldable pub file_line : Path → FileName → List ℕ → List ℕ
file_line p f text = json_line (file_value p f text)

-- two words ask for a file of a group, it is there, and this is its line
abbrev pub FindsLine : Option (List ℕ) → List ℕ → List ℕ → List ℕ → Type 0
FindsLine world path name line =
    (p : Path) × (f : FileName) × (text : List ℕ) × SpellsPath path p × (name ≡ file_word f) × IsFileOf world p f (Ok text) × (line ≡ file_line p f text)

-- ---- for private clauses

-- the last fields
abbrev pub text_fields : FileName → List ℕ → List (List ℕ × Json)
text_fields f text = (codes "file", string (file_word f)) ∷ (codes "text", string text) ∷ []
