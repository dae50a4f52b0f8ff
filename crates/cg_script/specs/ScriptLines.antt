-- How the lines of a script's text are taken.
use Rattle.std.specs.Prelude.{◌≡◌, ◌≤◌, Bool, List, ◌++◌, length, map}
use Rattle.std.specs.List.{AllByRecursion}
use Rattle.cg_history.specs.Meaning.{request_of}
use Rattle.cg_model.specs.Cgroups.{cgroups}
use Rattle.cg_model.specs.History.{Request}
use Rattle.cg_script.specs.declared.script.Script.{Script}
use Rattle.cg_script.specs.Script.{IsScriptRequest, last_request}

-- what the lines asked for that a script was read from so far
abbrev pub asked_by : Script → List (Request cgroups)
asked_by s = map request_of s.requests.items ++ last_request s.aborts

-- the lines of no script ask for these
abbrev pub IsNoScript : List (Request cgroups) → Type 0
IsNoScript rs = (own : List (Request cgroups)) (aborts : Bool) → length own ≤ 65536 → AllByRecursion IsScriptRequest own → rs ≡ own ++ last_request aborts → ⊥
