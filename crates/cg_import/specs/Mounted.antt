-- A tree that is that of folders and their files.
use Rattle.std.specs.Prelude.{◌≡◌, ◌⊎◌, ℕ, true, false, List, IfSome, Some, IsSome, codes}
use Rattle.cg_cpus.specs.CpuList.{SpellsCpus}
use Rattle.cg_maps.specs.FiniteSet.{FiniteSet, no_members}
use Rattle.cg_model.specs.Derived.{available}
use Rattle.cg_model.specs.Sound.{admits}
use Rattle.cg_model.specs.Tree.{Tree, group, place_of}
use Rattle.cg_name.specs.FileName.{file_word}
use Rattle.cg_name.specs.Path.{Path}
use Rattle.cg_name.specs.declared.file_name.FileName.TheVariants as files
use Rattle.cg_text.specs.Controllers.{no_controllers}
use Rattle.cg_text.specs.Reading.{SpellsFlag, SpellsLimit}
use Rattle.cg_text.specs.declared.controllers.Controllers.{Controllers}
use Rattle.cg_text.specs.declared.limit.Limit.TheVariants.{Max}
use Rattle.cg_text.specs.declared.settings.Settings.{Settings}
use Rattle.cg_import.specs.Files.{Known, Missing, folder_at, file_in, IsSaid}
use Rattle.cg_import.specs.Values.{SpellsNamed, SpellsPassedOn, ListsPid}

-- the file isn't missing and says these CPUs
pub record AreSaid (file : Known) (missing : Missing) (name : List ℕ) (cpus : FiniteSet) : Type 0 where
  pub there : ¬ (missing name ≡ true)
  pub says : IfSome (file name) (λ text. SpellsCpus text cpus)

-- the CPUs are those that are online: by the root's file, or else by the computer's
abbrev pub AreOnline : Known → Missing → List ℕ → FiniteSet → Type 0
AreOnline file missing root cpus =
    AreSaid file missing (file_in root (file_word files.EffectiveCpus)) cpus ⊎ AreSaid file missing (codes "/sys/devices/system/cpu/online") cpus

-- the settings are those that the files of a folder say, where so much is passed on from above
pub record AreSettingsIn (file : Known) (missing : Missing) (folder : List ℕ) (above : Controllers) (s : Settings) : Type 0 where
  pub control : IsSaid file missing (file_in folder (file_word files.SubtreeControl)) (SpellsPassedOn above) no_controllers s.control
  pub freeze : IsSaid file missing (file_in folder (file_word files.Freeze)) SpellsFlag false s.freeze
  pub cpus : IsSaid file missing (file_in folder (file_word files.Cpus)) SpellsCpus no_members s.cpus
  pub max_descendants : IsSaid file missing (file_in folder (file_word files.MaxDescendants)) SpellsLimit Max s.max_descendants
  pub max_depth : IsSaid file missing (file_in folder (file_word files.MaxDepth)) SpellsLimit Max s.max_depth

-- this holds of the text of a folder's file of processes, where it is known
abbrev pub OfProcesses : Known → List ℕ → (List ℕ → Type 0) → Type 0
OfProcesses file folder P = IfSome (file (file_in folder (file_word files.Procs))) P

-- a group of the tree is that of a folder
pub record IsGroupIn (file : Known) (missing : Missing) (folder : List ℕ) (T : Tree) (p : Path) (s : Settings) : Type 0 where
  -- its settings are what the files say
  pub settings : (above : Controllers) × (available T p ≡ Some above) × AreSettingsIn file missing folder above s
  -- the folder has a file of processes
  pub there : ¬ (missing (file_in folder (file_word files.Procs)) ≡ true)
  -- and those in it are in the tree, unless the group passes controllers on and isn't the root
  pub processes : admits p s ≡ true → OfProcesses file folder (λ text. (k : ℕ) → ListsPid text k → IsSome (place_of T k))

-- the tree is that of the folder of its root, and of folders below it
pub record IsMountedAt (file : Known) (missing : Missing) (root : List ℕ) (T : Tree) : Type 0 where
  -- the controllers are those that the root's file names, which isn't missing
  pub there : ¬ (missing (file_in root (file_word files.Controllers)) ≡ true)
  pub controllers : IfSome (file (file_in root (file_word files.Controllers))) (λ text. SpellsNamed text T.controllers)
  -- each group is that of its folder
  pub groups : (p : Path) (s : Settings) → group T p ≡ Some s → IsGroupIn file missing (folder_at root p) T p s
  -- each process stands in its group's file of processes
  pub processes : (k : ℕ) (p : Path) → place_of T k ≡ Some p → OfProcesses file (folder_at root p) (λ text. ListsPid text k)

-- nothing that the files name or list is left out: neither controllers that a group passes on, nor processes
pub record IsWhole (file : Known) (missing : Missing) (root : List ℕ) (T : Tree) : Type 0 where
  pub control : (p : Path) (s : Settings) → group T p ≡ Some s → IsSaid file missing (file_in (folder_at root p) (file_word files.SubtreeControl)) SpellsNamed no_controllers s.control
  pub processes : (p : Path) (s : Settings) → group T p ≡ Some s → OfProcesses file (folder_at root p) (λ text. (k : ℕ) → ListsPid text k → IsSome (place_of T k))
