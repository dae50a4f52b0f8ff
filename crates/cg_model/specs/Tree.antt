-- The tree of control groups (cgroup-v2, Organizing Processes and Threads).
use Rattle.std.specs.Prelude.{ℕ, List, [], ◌∷◌, Option, None}
use Rattle.std.specs.Ordering.{nat_cmp}
use Rattle.cg_maps.specs.FiniteMap.{FiniteMap, get}
use Rattle.cg_maps.specs.FiniteSet.{FiniteSet}
use Rattle.cg_name.specs.Path.{Path, path_cmp, along}
use Rattle.cg_text.specs.declared.controllers.Controllers.{Controllers}
use Rattle.cg_text.specs.declared.settings.Settings.{Settings}

-- the machine's controllers and online CPUs, the settings of each group, and the group of each process: the groups form one
-- tree, and each process is in exactly one group (Organizing Processes and Threads: Processes)
pub record Tree : Type 0 where
  pub controllers : Controllers
  pub online : FiniteSet
  pub groups : FiniteMap path_cmp Settings
  pub places : FiniteMap nat_cmp Path

-- the settings of a group, none where it is absent
abbrev pub group : Tree → Path → Option Settings
group T p = get T.groups p

-- the group that a process is in, none where no process has this PID
abbrev pub place_of : Tree → ℕ → Option Path
place_of T k = get T.places k

-- the groups from the root down to the parent of p
abbrev pub above : Tree → Path → List (Option Settings)
above T p = along (group T) p

-- the last of a list of options
abbrev pub last_of : {A : Type 0} → List (Option A) → Option A
last_of [] = None
last_of (x ∷ []) = x
last_of (x ∷ (y ∷ ys)) = last_of (y ∷ ys)

-- the parent's settings, none where it is absent, and for the root
abbrev pub parent_group : Tree → Path → Option Settings
parent_group T p = last_of (above T p)
