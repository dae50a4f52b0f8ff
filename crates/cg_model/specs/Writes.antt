-- Moving processes, writing single settings and reading files (cgroup-v2, Organizing Processes and Threads: Processes;
-- Core Interface Files; Cpuset Interface Files). That any set of CPUs may be set online is this project's own choice.
use Rattle.std.specs.Prelude.{ℕ, Bool, cond, not, ◌&&◌, List, [], ◌∷◌, Option, Some, None, Result, Ok, Err}
use Rattle.cg_maps.specs.FiniteSet.{FiniteSet}
use Rattle.cg_name.specs.Path.{Path, is_root}
use Rattle.cg_name.specs.declared.refusal.Refusal.{Refusal}
use Rattle.cg_name.specs.declared.refusal.Refusal.TheVariants.{NoGroup, NoProcess, Controlled, NoFile}
use Rattle.cg_text.specs.declared.controllers.Controllers.{Controllers}
use Rattle.cg_text.specs.declared.settings.Settings.{Settings}
use Rattle.cg_model.specs.Sound.{admits}
use Rattle.cg_model.specs.Derived.{with_cpuset}
use Rattle.cg_model.specs.Key.{Field, Setting, setting, Freeze, Cpus, Place, Part, Online}
use Rattle.cg_model.specs.Change.{change}
use Rattle.cg_model.specs.System.{Done, Text, Refuse, Accept}
use Rattle.cg_model.specs.Command.{Effect}

-- the PID, the group, the process's group, and the settings of the group (Organizing Processes and Threads: Processes; No
-- Internal Process Constraint)
abbrev pub migrate_effect : ℕ → Path → Option Path → Option Settings → Effect
migrate_effect k p None s = Refuse NoProcess
migrate_effect k p (Some q) None = Refuse NoGroup
migrate_effect k p (Some q) (Some s) = cond (admits p s) (Accept Done (change (Place k) (Some q) (Some p) ∷ [])) (Refuse Controlled)

-- one setting of a group gets a value
abbrev pub written : Path → (f : Field) → Setting f → Settings → Effect
written p f v s = Accept Done (change (Part p f) (Some (setting f s)) (Some v) ∷ [])

-- the root has no freeze value (Core Interface Files: cgroup.freeze)
abbrev pub freeze_effect : Path → Bool → Option Settings → Effect
freeze_effect p v None = Refuse NoGroup
freeze_effect p v (Some s) = cond (is_root p) (Refuse NoFile) (written p Freeze v s)

-- the root asks for no CPUs, nor does a group that cpuset isn't available to (Cpuset Interface Files: cpuset.cpus)
abbrev pub cpus_effect : Path → FiniteSet → Option Settings → Option Controllers → Effect
cpus_effect p v None a = Refuse NoGroup
cpus_effect p v (Some s) a = cond (not (is_root p) && with_cpuset a) (written p Cpus v s) (Refuse NoFile)

-- every group has both limits (Core Interface Files: cgroup.max.descendants, cgroup.max.depth)
abbrev pub limit_effect : Path → (f : Field) → Setting f → Option Settings → Effect
limit_effect p f v None = Refuse NoGroup
limit_effect p f v (Some s) = written p f v s

-- the CPUs to be online, and those that are
abbrev pub online_effect : FiniteSet → FiniteSet → Effect
online_effect v e = Accept Done (change Online (Some e) (Some v) ∷ [])

-- a file is shown, or why there is none
abbrev pub show_effect : Result (List ℕ) Refusal → Effect
show_effect (Err r) = Refuse r
show_effect (Ok text) = Accept (Text text) []
