-- How a run of scripts is closed.
use Rattle.std.specs.Prelude.{◌≡◌, ℕ, List, length}
use Rattle.cg_model.specs.Cgroups.{cgroups}
use Rattle.cg_model.specs.History.{History}
use Rattle.cg_desk.specs.Audit.{IsAudited}
use Rattle.cg_log.specs.Call.{SessionState}
use Rattle.cg_script.specs.declared.script.Script.{Script}
use Rattle.cg_runner.specs.Runs.{AreRun}
use Rattle.cg_runner.specs.declared.end.ScriptEnd.{ScriptEnd}

-- as many sessions as there are workers made the history, and have ended
abbrev pub IsClosed : ℕ → History cgroups → Type 0
IsClosed workers h = (sessions : List SessionState) × (length sessions ≡ workers) × (handed : ℕ) × IsAudited h handed sessions

-- as many sessions as there are workers made the history, and have ended; and on these the scripts were run, each once, ended as is
-- told, and nothing else was done
abbrev pub HaveHappened : ℕ → ℕ → List Script → List ScriptEnd → History cgroups → Type 0
HaveHappened workers tries scripts ends h =
    (sessions : List SessionState) × (length sessions ≡ workers) × (handed : ℕ) × IsAudited h handed sessions × AreRun tries scripts ends sessions
