-- The lines that tell how scripts ended.
use Rattle.std.specs.Prelude.{ℕ, ◌+◌, List, [], ◌∷◌, ◌++◌, Option, codes}
use Rattle.std.specs.Fmt.{decimal}
use Rattle.cg_batch.specs.EndValue.{end_value}
use Rattle.cg_batch.specs.Outcomes.{outcome_in, outcome_words}
use Rattle.cg_batch.specs.declared.form.BatchForm.{BatchForm}
use Rattle.cg_batch.specs.declared.form.BatchForm.TheVariants as forms
use Rattle.cg_batch.specs.declared.outcomes.Outcome.{Outcome}
use Rattle.cg_json.specs.Text.{json_line}
use Rattle.cg_json.specs.declared.form.Form.{Form}
use Rattle.cg_json.specs.declared.form.Form.TheVariants.{Plain, Json}
use Rattle.cg_model.specs.Cgroups.{cgroups}
use Rattle.cg_model.specs.History.{History}
use Rattle.cg_runner.specs.End.{end_words}
use Rattle.cg_runner.specs.declared.end.ScriptEnd.{ScriptEnd}
use Rattle.cg_runner.specs.declared.end.ScriptEnd.TheVariants.{GaveUp}

-- the plain line of script n
abbrev pub plain_end_line : ℕ → ScriptEnd → List ℕ
plain_end_line n end = codes "script " ++ decimal n ++ codes " " ++ end_words end ++ 10 ∷ []

-- its line of JSON
unfoldable pub json_end_line : ℕ → ScriptEnd → List ℕ
json_end_line n end = json_line (end_value n end)

-- its line in a form
abbrev pub end_line : Form → ℕ → ScriptEnd → List ℕ
end_line Plain n end = plain_end_line n end
end_line Json n end = json_end_line n end

-- a transaction was in the way of a request
abbrev pub way_words : ℕ → ℕ → List ℕ
way_words holder line = codes "# transaction " ++ decimal holder ++ codes " was in the way of request " ++ decimal line ++ codes ", and "

-- of a script that gave up it is told, as a comment, which transaction was in the way of which request in its last try, and how that
-- transaction ended
abbrev pub holder_note : (ℕ → Option Outcome) → ScriptEnd → List ℕ
holder_note outcome (GaveUp line holder tries) = way_words holder.0 line ++ outcome_words (outcome holder.0)
holder_note outcome _ = []

-- the plain line of script n, and that comment
abbrev pub explained_line : (ℕ → Option Outcome) → ℕ → ScriptEnd → List ℕ
explained_line outcome n end = plain_end_line n end ++ holder_note outcome end

-- the lines of these, of which the first is that of script n
abbrev pub lines_by : (ℕ → ScriptEnd → List ℕ) → ℕ → List ScriptEnd → List ℕ
lines_by line n [] = []
lines_by line n (end ∷ ends) = line n end ++ lines_by line (n + 1) ends

-- the lines of scripts that left this history, of which the first is script 1
abbrev pub ends_text : BatchForm → History cgroups → List ScriptEnd → List ℕ
ends_text forms.Plain h ends = lines_by (end_line Plain) 1 ends
ends_text forms.Explained h ends = lines_by (explained_line (outcome_in h)) 1 ends
ends_text forms.Json h ends = lines_by (end_line Json) 1 ends
