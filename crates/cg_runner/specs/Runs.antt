-- What workers did: the runs of scripts, each with its calls.
use Rattle.std.specs.Prelude.{◌≡◌, ℕ, ◌==◌, nat_lt, cond, List, length, Some}
use Rattle.std.specs.List.{AllByRecursion, AllZip, count_by, flat_map, slice_get}
use Rattle.cg_log.specs.Call.{Call, SessionState}
use Rattle.cg_script.specs.declared.script.Script.{Script}
use Rattle.cg_runner.specs.End.{CanEnd}
use Rattle.cg_runner.specs.EndOf.{joined, IsEndOf}
use Rattle.cg_runner.specs.declared.end.ScriptEnd.{ScriptEnd}

-- a run of a script: the script's place among all, from 0; how it ended; and the calls that were made for it
pub record Run : Type 0 where
  pub place : ℕ
  pub end : ScriptEnd
  pub calls : List Call

-- it is one of these scripts, which may be begun so often, and ended so by these calls
pub record IsRunOf (tries : ℕ) (scripts : List Script) (run : Run) : Type 0 where
  pub script : Script
  pub there : slice_get scripts run.place ≡ Some script
  pub can : CanEnd tries script run.end
  pub by_calls : IsEndOf script run.calls run.end

-- the calls of these runs, one behind the other
abbrev pub calls_in : List Run → List Call
calls_in runs = flat_map (λ run. run.calls) runs

-- the scripts were run on these sessions, each once, and ended as is told
pub record AreRun (tries : ℕ) (scripts : List Script) (ends : List ScriptEnd) (sessions : List SessionState) : Type 0 where
  -- there are as many ends as scripts
  pub as_many : length ends ≡ length scripts
  -- of each session the runs, in their order
  pub runs : List (List Run)
  -- each log has their calls, whole and in order, and nothing else
  pub logs : AllZip (λ session own. session.log ≡ calls_in own) sessions runs
  -- each is a run of one of the scripts,
  pub each : AllByRecursion (IsRunOf tries scripts) (joined runs)
  -- whose end is the one that is told of it
  pub told : AllByRecursion (λ run. slice_get ends run.place ≡ Some run.end) (joined runs)
  -- and each script has one run
  pub once : (n : ℕ) → count_by (λ run. run.place == n) (joined runs) ≡ cond (nat_lt n (length scripts)) 1 0
