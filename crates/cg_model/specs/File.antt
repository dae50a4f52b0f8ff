-- The interface files: which a group has, and their texts (cgroup-v2, Core Interface Files; Cpuset Interface Files).
use Rattle.std.specs.Prelude.{ℕ, Bool, cond, not, ◌&&◌, List, Option, Some, None, option_map, Result, Ok, Err}
use Rattle.cg_maps.specs.FiniteSet.{FiniteSet}
use Rattle.cg_name.specs.Path.{Path, is_root}
use Rattle.cg_name.specs.declared.refusal.Refusal.{Refusal}
use Rattle.cg_name.specs.declared.refusal.Refusal.TheVariants.{NoGroup, NoFile}
use Rattle.cg_text.specs.FileText.{controllers_text, pids_text, flag_text, events_text, cpus_line, limit_text}
use Rattle.cg_text.specs.declared.controllers.Controllers.{Controllers}
use Rattle.cg_text.specs.declared.settings.Settings.{Settings}
use Rattle.cg_name.specs.declared.file_name.FileName.{FileName}
use Rattle.cg_name.specs.declared.file_name.FileName.TheVariants as files
use Rattle.cg_model.specs.Tree.{Tree, group}
use Rattle.cg_model.specs.Derived.{processes, available, with_cpuset, is_frozen, is_populated, effective_cpus}

-- a file of a present group: whether it is the root, its settings, what is available, its PIDs, populated, frozen, effective
abbrev pub file_of : Bool → Settings → Option Controllers → List ℕ → Bool → Bool → FiniteSet → FileName → Option (List ℕ)
file_of root s a pids populated frozen e files.Procs = Some (pids_text pids)
file_of root s a pids populated frozen e files.Controllers = option_map controllers_text a
file_of root s a pids populated frozen e files.SubtreeControl = Some (controllers_text s.control)
file_of root s a pids populated frozen e files.Events = cond root None (Some (events_text populated frozen))
file_of root s a pids populated frozen e files.Freeze = cond root None (Some (flag_text s.freeze))
file_of root s a pids populated frozen e files.Cpus = cond (not root && with_cpuset a) (Some (cpus_line s.cpus)) None
file_of root s a pids populated frozen e files.EffectiveCpus = cond (with_cpuset a) (Some (cpus_line e)) None
file_of root s a pids populated frozen e files.MaxDescendants = Some (limit_text s.max_descendants)
file_of root s a pids populated frozen e files.MaxDepth = Some (limit_text s.max_depth)

-- a text, or that there is no such file
abbrev pub or_no_file : Option (List ℕ) → Result (List ℕ) Refusal
or_no_file None = Err NoFile
or_no_file (Some text) = Ok text

-- a file by what is seen of its group: the path, the file, the settings, if there is such a group, and what the files show
abbrev pub file_seen : Path → FileName → Option Settings → Option Controllers → List ℕ → Bool → Bool → FiniteSet → Result (List ℕ) Refusal
file_seen p f None a pids populated frozen e = Err NoGroup
file_seen p f (Some s) a pids populated frozen e = or_no_file (file_of (is_root p) s a pids populated frozen e f)

-- the text of a group's file, or why there is none
abbrev pub file : Tree → Path → FileName → Result (List ℕ) Refusal
file T p f = file_seen p f (group T p) (available T p) (processes T p) (is_populated T p) (is_frozen T p) (effective_cpus T p)
