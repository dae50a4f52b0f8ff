-- What a history has of scripts that were run: laws of `HaveHappened`.
use Rattle.std.specs.Prelude.{◌≡◌, ℕ, List, ◌++◌}
use Rattle.std.specs.List.{AllZip}
use Rattle.cg_model.specs.Cgroups.{cgroups}
use Rattle.cg_model.specs.History.{History, Commit, Committed}
use Rattle.cg_log.specs.Call.{Call, calls_of}
use Rattle.cg_script.specs.declared.script.Script.{Script}
use Rattle.cg_runner.specs.Closed.{HaveHappened}
use Rattle.cg_runner.specs.EndOf.{requests_of, IsEndOf, IsWhole}
use Rattle.cg_runner.specs.declared.end.ScriptEnd.{ScriptEnd}
use Rattle.cg_runner.specs.declared.end.ScriptEnd.TheVariants as ends

-- the history has these calls of a session, one behind the other
abbrev pub HasCalls : History cgroups → List Call → Type 0
HasCalls h calls = (session : ℕ) × (before : List Call) × (later : List Call) × (calls_of session h ≡ before ++ calls ++ later)

-- the script ended so by calls that the history has
abbrev pub HasHappened : History cgroups → Script → ScriptEnd → Type 0
HasHappened h script end = (calls : List Call) × HasCalls h calls × IsEndOf script calls end

-- the law of ends: each has happened
abbrev pub EachHasHappened : Type 0
EachHasHappened =
    (workers tries : ℕ) (scripts : List Script) (told : List ScriptEnd) (h : History cgroups) → HaveHappened workers tries scripts told h → AllZip (HasHappened h) scripts told

-- the law of commits: a script that is told as committed with a number is a transaction of the history, whole, whose commit has
-- this number
abbrev pub CommittedAreWhole : Type 0
CommittedAreWhole =
    (h : History cgroups) (script : Script) (number tries : ℕ) → HasHappened h script (ends.Committed number tries)
    → (calls : List Call) × HasCalls h calls × IsWhole (requests_of script) Commit (λ t. Committed number) calls
