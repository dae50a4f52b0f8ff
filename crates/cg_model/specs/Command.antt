-- The ten commands, and what a command does: a refusal, or an outcome with changes (cgroup-v2, Organizing Processes and
-- Threads; Core Interface Files; Cpuset Interface Files. Setting CPUs online stands for hotplug).
use Rattle.std.specs.Prelude.{◌≡◌, ℕ, Bool, false, List}
use Rattle.cg_maps.specs.FiniteSet.{FiniteSet, is_empty_set}
use Rattle.cg_name.specs.Path.{Path}
use Rattle.cg_text.specs.declared.control_ops.ControlOps.{ControlOps}
use Rattle.cg_name.specs.declared.file_name.FileName.{FileName}
use Rattle.cg_text.specs.declared.limit.Limit.{Limit}
use Rattle.cg_model.specs.System.{Attempt, Refuse, Accept}
use Rattle.cg_model.specs.Tree.{Tree}
use Rattle.cg_model.specs.Change.{Change, done}

-- one of the ten
pub data Command : Type 0 where
  -- make the group at a path; take it away
  Create Remove : Path → Command
  -- move the process with a PID into a group
  Migrate : ℕ → Path → Command
  -- write cgroup.subtree_control, cgroup.freeze, cpuset.cpus
  Subtree : Path → ControlOps → Command
  Freeze : Path → Bool → Command
  Cpus : Path → FiniteSet → Command
  -- read an interface file
  Show : Path → FileName → Command
  -- set which CPUs are online
  Online : FiniteSet → Command
  -- write cgroup.max.descendants, cgroup.max.depth
  MaxDescendants MaxDepth : Path → Limit → Command

-- what can't be asked for: that no CPU is online
abbrev pub IsProper : Command → Type 0
IsProper (Online v) = is_empty_set v ≡ false
IsProper c = Unit {0}

-- a refusal, or an outcome with the changes in order
abbrev pub Effect : Type 0
Effect = Attempt (List Change)

-- the command is accepted
abbrev pub IsAccepted : Effect → Type 0
IsAccepted (Refuse r) = ⊥
IsAccepted (Accept o cs) = Unit {0}

-- an accepted command changes the one tree to the other
abbrev pub ChangesTo : Effect → Tree → Tree → Type 0
ChangesTo (Refuse r) T U = ⊥
ChangesTo (Accept o cs) T U = U ≡ done cs T
