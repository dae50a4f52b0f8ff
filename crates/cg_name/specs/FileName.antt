-- The names of the interface files.
use Rattle.std.specs.Prelude.{ℕ, List, [], ◌∷◌, codes}
use Rattle.cg_name.specs.declared.file_name.FileName.{FileName}
use Rattle.cg_name.specs.declared.file_name.FileName.TheVariants as files

-- the name of an interface file
abbrev pub file_word : FileName → List ℕ
file_word files.Procs = codes "cgroup.procs"
file_word files.Controllers = codes "cgroup.controllers"
file_word files.SubtreeControl = codes "cgroup.subtree_control"
file_word files.Events = codes "cgroup.events"
file_word files.Freeze = codes "cgroup.freeze"
file_word files.Cpus = codes "cpuset.cpus"
file_word files.EffectiveCpus = codes "cpuset.cpus.effective"
file_word files.MaxDescendants = codes "cgroup.max.descendants"
file_word files.MaxDepth = codes "cgroup.max.depth"

abbrev pub all_files : List FileName
all_files =
    files.Procs ∷ files.Controllers ∷ files.SubtreeControl ∷ files.Events ∷ files.Freeze ∷ files.Cpus ∷ files.EffectiveCpus ∷ files.MaxDescendants ∷ files.MaxDepth ∷ []
