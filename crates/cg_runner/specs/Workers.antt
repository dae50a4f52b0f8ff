-- Workers, and the gathering of what they tell.
use Rattle.std.specs.Prelude.{◌≡◌, ℕ, ◌==◌, ◌+◌, nat_lt, cond, List, [], length, Option, Some, None}
use Rattle.std.specs.List.{AllByRecursion, AllZip, count_by, flat_map, slice_get}
use Rattle.cg_log.specs.Call.{Call}
use Rattle.cg_script.specs.declared.script.Script.{Script}
use Rattle.cg_runner.specs.Runs.{calls_in, IsRunOf, Run}
use Rattle.cg_runner.specs.declared.end.ScriptEnd.{ScriptEnd}
use Rattle.cg_runner.specs.declared.worker.Finished.{Finished}
use Rattle.cg_runner.specs.declared.worker.Worker.{Worker}

-- a run is told so
abbrev pub IsToldOf : Finished → Run → Type 0
IsToldOf f run = (run.place ≡ f.place) × (run.end ≡ f.end)

-- the log has the calls of runs of these scripts, which are told so, whole and in order, and nothing else
pub record IsLogOf (tries : ℕ) (scripts : List Script) (finished : List Finished) (log : List Call) : Type 0 where
  pub runs : List Run
  pub told : AllZip IsToldOf finished runs
  pub each : AllByRecursion (IsRunOf tries scripts) runs
  pub log_is : log ≡ calls_in runs

-- a worker without a fault tells all that its session did
abbrev pub TellsAll : ℕ → List Script → Worker → Type 0
TellsAll tries scripts w = w.fault ≡ None → IsLogOf tries scripts w.finished.items w.session.log

abbrev pub KeepsTelling : ℕ → List Script → Worker → Worker → Type 0
KeepsTelling tries scripts v w = TellsAll tries scripts v → TellsAll tries scripts w

-- how often these are told of a place
abbrev pub times_told : ℕ → List Finished → ℕ
times_told n finished = count_by (λ f. f.place == n) finished

-- what is told by these workers
abbrev pub told_by : List Worker → List Finished
told_by workers = flat_map (λ w. w.finished.items) workers

-- whether an end stands at a place
abbrev pub filled_by : Option (Option ScriptEnd) → ℕ
filled_by (Some (Some end)) = 1
filled_by (Some None) = 0
filled_by None = 0

-- these were put at their places, where none stood before
pub record ArePut (finished : List Finished) (old new : List (Option ScriptEnd)) : Type 0 where
  pub length_is : length new ≡ length old
  pub once : (n : ℕ) → filled_by (slice_get new n) ≡ filled_by (slice_get old n) + times_told n finished
  pub stay : (n : ℕ) (end : ScriptEnd) → slice_get old n ≡ Some (Some end) → slice_get new n ≡ Some (Some end)
  pub there : AllByRecursion (λ f. slice_get new f.place ≡ Some (Some f.end)) finished

-- these are the ends of so many scripts, each of which is told once
pub record AreEnds (scripts : ℕ) (finished : List Finished) (ends : List ScriptEnd) : Type 0 where
  pub as_many : length ends ≡ scripts
  pub once : (n : ℕ) → times_told n finished ≡ cond (nat_lt n scripts) 1 0
  pub there : AllByRecursion (λ f. slice_get ends f.place ≡ Some f.end) finished

-- a worker that has done nothing
abbrev pub IsNew : Worker → Type 0
IsNew w = (w.session.log ≡ []) × (w.finished.items ≡ [])
