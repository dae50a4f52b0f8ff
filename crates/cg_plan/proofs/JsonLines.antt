-- The line of JSON of one command more.
use Rattle.std.proofs.Common.{◌≡◌, ℕ, ◌+◌, ◌<◌, List, [], ◌∷◌, ◌++◌, length, map, take, sym, ap, ◌∙◌, append-nil, append_assoc, arith}
use Rattle.std.proofs.lemmas.List.{length-map, length-take-le}
use Rattle.cg_history.specs.Meaning.{request_of}
use Rattle.cg_history.specs.declared.record.Request.{Request}
use Rattle.cg_json.specs.Text.{json_line}
use Rattle.cg_model.specs.Command.{Command}
use Rattle.cg_plan.specs.Leads.{asked_for}
use Rattle.cg_plan.specs.PlanValue.{command_lines, command_value}

-- the last command is on the line behind those of the others
last_line : (first line : ℕ) (cs : List Command) (c : Command) → line ≡ first + length cs → command_lines first (cs ++ c ∷ []) ≡ command_lines first cs ++ json_line (command_value line c)
last_line first line [] c is = append-nil (json_line (command_value first c)) ∙ ap (λ n. json_line (command_value n c)) (omega arith)
last_line first line (d ∷ cs) c is =
    let this = json_line (command_value first d) in
    ap (λ l. this ++ l) (last_line (first + 1) line cs c (omega arith)) ∙ sym (append_assoc this (command_lines (first + 1) cs) (json_line (command_value line c)))

-- as many commands as requests
pub as_many : (rs : List Request) (i : ℕ) (cs : List Command) → i < length rs → map request_of (take i rs) ≡ map asked_for cs → length cs ≡ i
as_many rs i cs within same =
    sym (length-map cs asked_for) ∙ ap length (sym same) ∙ length-map (take i rs) request_of ∙ length-take-le i rs (omega arith)

-- its line stands behind the others
pub json_more : (rs : List Request) (i : ℕ) (cs : List Command) (c : Command) (before after : List ℕ) → i < length rs → map request_of (take i rs) ≡ map asked_for cs → after ≡ before ++ json_line (command_value (i + 1) c) → before ≡ command_lines 1 cs
    → after ≡ command_lines 1 (cs ++ c ∷ [])
json_more rs i cs c before after within same written lines =
    let many : length cs ≡ i = as_many rs i cs within same in
    written ∙ ap (λ text. text ++ json_line (command_value (i + 1) c)) lines ∙ sym (last_line 1 (i + 1) cs c (omega arith))
