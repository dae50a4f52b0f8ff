-- What workers tell, and what was run on their sessions.
use Rattle.std.proofs.Common.{◌≡◌, ℕ, ◌+◌, ◌<◌, ◌==◌, true, cond, List, [], ◌∷◌, ◌++◌, length, map, Some, None, refl, sym, ap, subst, ◌∙◌, arith}
use Rattle.std.proofs.lemmas.Bool.{eqb-true, lt-ltb}
use Rattle.std.proofs.lemmas.List.{flat_map_more}
use Rattle.std.proofs.lemmas.List.Sums.{sum_by-cons}
use Rattle.std.proofs.lemmas.Slice.Zip.{all_zipped_more}
use Rattle.std.specs.List.{AllByRecursion, AllZip, count_by, slice_get}
use Rattle.cg_log.specs.Call.{SessionState}
use Rattle.cg_script.specs.declared.script.Script.{Script}
use Rattle.cg_runner.specs.End.{CanEnd}
use Rattle.cg_runner.specs.EndOf.{joined}
use Rattle.cg_runner.specs.Runs.{calls_in, AreRun, IsRunOf, Run}
use Rattle.cg_runner.specs.Trying.{Ran}
use Rattle.cg_runner.specs.Workers.{told_by, AreEnds, IsLogOf, IsNew, IsToldOf, KeepsTelling, TellsAll}
use Rattle.cg_runner.specs.declared.end.ScriptEnd.{ScriptEnd}
use Rattle.cg_runner.specs.declared.worker.Finished.{Finished}
use Rattle.cg_runner.specs.declared.worker.Worker.{Worker}
use Rattle.cg_runner.proofs.Each.{each_append, each_both, some_counted, zip_append, zip_got}

-- one run more
pub told_more : (tries : ℕ) (scripts : List Script) (finished : List Finished) (f : Finished) (s u : SessionState) (script : Script)
    → IsLogOf tries scripts finished s.log → slice_get scripts f.place ≡ Some script → CanEnd tries script f.end → Ran script s u f.end
    → IsLogOf tries scripts (finished ++ f ∷ []) u.log
told_more tries scripts finished f s u script before there can (calls, made, by) =
    let run : Run = record { place = f.place; end = f.end; calls = calls } in
    let one : IsRunOf tries scripts run = record { script = script; there = there; can = can; by_calls = by } in
    record {
      runs = before.runs ++ run ∷ [];
      told = all_zipped_more IsToldOf finished before.runs f run before.told (refl, refl);
      each = each_append (IsRunOf tries scripts) before.runs (run ∷ []) before.each (one, tt);
      log_is = ap (λ (v : SessionState). v.log) made ∙ ap (λ l. l ++ calls) before.log_is ∙ flat_map_more (λ (r : Run). r.calls) [] before.runs run;
    }

-- a worker that is new tells all that it did
new_tells : (tries : ℕ) (scripts : List Script) (w : Worker) → IsNew w → TellsAll tries scripts w
new_tells tries scripts w new well =
    record { runs = []; told = subst (λ fs. AllZip IsToldOf fs []) (sym new.1) tt; each = tt; log_is = new.0 }

abbrev Tells : ℕ → List Script → Worker → Type 0
Tells tries scripts w = IsLogOf tries scripts w.finished.items w.session.log

all_tell : (tries : ℕ) (scripts : List Script) (vs ws : List Worker) → AllByRecursion IsNew vs → AllZip (KeepsTelling tries scripts) vs ws
    → AllByRecursion (λ w. w.fault ≡ None) ws → AllByRecursion (Tells tries scripts) ws
all_tell tries scripts [] [] new keep well = tt
all_tell tries scripts [] (w ∷ ws) new keep well = absurd keep
all_tell tries scripts (v ∷ vs) [] new keep well = absurd keep
all_tell tries scripts (v ∷ vs) (w ∷ ws) new keep well =
    (keep.0 (new_tells tries scripts v new.0) well.0, all_tell tries scripts vs ws new.1 keep.1 well.1)

-- the runs of all workers
abbrev AllRuns : ℕ → List Script → List Worker → Type 0
AllRuns tries scripts ws =
    (runs : List (List Run)) × AllZip (λ (s : SessionState) own. s.log ≡ calls_in own) (map (λ w. w.session) ws) runs
    × AllByRecursion (IsRunOf tries scripts) (joined runs) × AllZip IsToldOf (told_by ws) (joined runs)

all_runs : (tries : ℕ) (scripts : List Script) (ws : List Worker) → AllByRecursion (Tells tries scripts) ws → AllRuns tries scripts ws
all_runs tries scripts [] h = ([], tt, tt, tt)
all_runs tries scripts (w ∷ ws) h =
    let rest : AllRuns tries scripts ws = all_runs tries scripts ws h.1 in (
      h.0.runs ∷ rest.0,
      (h.0.log_is, rest.1),
      each_append (IsRunOf tries scripts) h.0.runs (joined rest.0) h.0.each rest.2,
      zip_append IsToldOf w.finished.items (told_by ws) h.0.runs (joined rest.0) h.0.told rest.3,
    )

told_there : (ends : List ScriptEnd) (fs : List Finished) (runs : List Run) → AllZip IsToldOf fs runs
    → AllByRecursion (λ f. slice_get ends f.place ≡ Some f.end) fs → AllByRecursion (λ run. slice_get ends run.place ≡ Some run.end) runs
told_there ends [] [] z h = tt
told_there ends [] (r ∷ runs) z h = absurd z
told_there ends (f ∷ fs) [] z h = absurd z
told_there ends (f ∷ fs) (r ∷ runs) z h =
    (ap (λ p. slice_get ends p) z.0.0 ∙ h.0 ∙ ap (λ e. Some e) (sym z.0.1), told_there ends fs runs z.1 h.1)

told_once : (n : ℕ) (fs : List Finished) (runs : List Run) → AllZip IsToldOf fs runs → count_by (λ run. run.place == n) runs ≡ count_by (λ f. f.place == n) fs
told_once n [] [] z = refl
told_once n [] (r ∷ runs) z = absurd z
told_once n (f ∷ fs) [] z = absurd z
told_once n (f ∷ fs) (r ∷ runs) z =
    sum_by-cons (λ (x : Run). cond (x.place == n) 1 0) r runs
    ∙ ap (λ p. cond (p == n) 1 0 + count_by (λ (x : Run). x.place == n) runs) z.0.0
    ∙ ap (λ k. cond (f.place == n) 1 0 + k) (told_once n fs runs z.1)
    ∙ sym (sum_by-cons (λ (x : Finished). cond (x.place == n) 1 0) f fs)

pub are_run : (tries : ℕ) (scripts : List Script) (ends : List ScriptEnd) (vs ws : List Worker) → AllByRecursion IsNew vs → AllZip (KeepsTelling tries scripts) vs ws
    → AllByRecursion (λ w. w.fault ≡ None) ws → AreEnds (length scripts) (told_by ws) ends → AreRun tries scripts ends (map (λ w. w.session) ws)
are_run tries scripts ends vs ws new keep well are =
    let all : AllRuns tries scripts ws = all_runs tries scripts ws (all_tell tries scripts vs ws new keep well) in
    record {
      as_many = are.as_many;
      runs = all.0;
      logs = all.1;
      each = all.2;
      told = told_there ends (told_by ws) (joined all.0) all.3 are.there;
      once = λ n. told_once n (told_by ws) (joined all.0) all.3 ∙ are.once n;
    }

-- what holds of each run and of the script that it is a run of holds of each script with its end
abbrev EndAt : (Script → ScriptEnd → Type 0) → List Script → List ScriptEnd → ℕ → Type 0
EndAt R scripts ends i = (x : Script) × (y : ScriptEnd) × (slice_get scripts i ≡ Some x) × (slice_get ends i ≡ Some y) × R x y

end_at : (tries : ℕ) (scripts : List Script) (ends : List ScriptEnd) (sessions : List SessionState) (are : AreRun tries scripts ends sessions)
    (Q : Run → Type 0) (R : Script → ScriptEnd → Type 0) → AllByRecursion Q (joined are.runs)
    → ((run : Run) (one : IsRunOf tries scripts run) → Q run → R one.script run.end) → (i : ℕ) → i < length scripts → EndAt R scripts ends i
end_at tries scripts ends sessions are Q R each gives i inside =
    let all : List Run = joined are.runs in
    let There : Run → Type 0 = λ run. slice_get ends run.place ≡ Some run.end in
    let one : count_by (λ run. run.place == i) all ≡ 1 = are.once i ∙ ap (λ b. cond b 1 0) (lt-ltb i (length scripts) inside) in
    let such : AllByRecursion (λ run. (IsRunOf tries scripts run × There run) × Q run) all =
    each_both (λ run. IsRunOf tries scripts run × There run) Q all (each_both (IsRunOf tries scripts) There all are.each are.told) each in
    let found : (run : Run) × ((IsRunOf tries scripts run × There run) × Q run) × ((run.place == i) ≡ true) =
    some_counted (λ run. (IsRunOf tries scripts run × There run) × Q run) (λ run. run.place == i) all such (omega (arith, one)) in
    subst (λ k. EndAt R scripts ends k) (eqb-true found.0.place i found.2)
    (found.1.0.0.script, found.0.end, found.1.0.0.there, found.1.0.1, gives found.0 found.1.0.0 found.1.1)

pub all_ends : (tries : ℕ) (scripts : List Script) (ends : List ScriptEnd) (sessions : List SessionState) (are : AreRun tries scripts ends sessions)
    (Q : Run → Type 0) (R : Script → ScriptEnd → Type 0) → AllByRecursion Q (joined are.runs)
    → ((run : Run) (one : IsRunOf tries scripts run) → Q run → R one.script run.end) → AllZip R scripts ends
all_ends tries scripts ends sessions are Q R each gives =
    zip_got R scripts ends are.as_many (end_at tries scripts ends sessions are Q R each gives)

pub all_can_end : (tries : ℕ) (scripts : List Script) (ends : List ScriptEnd) (sessions : List SessionState) → AreRun tries scripts ends sessions
    → AllZip (CanEnd tries) scripts ends
all_can_end tries scripts ends sessions are =
    all_ends tries scripts ends sessions are (IsRunOf tries scripts) (CanEnd tries) are.each (λ run one same. one.can)
