-- Sound trees: what holds of every hierarchy that the kernel would show (cgroup-v2, Controlling Controllers; Cpuset).
use Rattle.std.specs.Prelude.{◌≡◌, ℕ, Bool, true, false, ◌||◌, [], Some}
use Rattle.cg_maps.specs.FiniteSet.{is_empty_set}
use Rattle.cg_name.specs.Path.{Path, is_root, is_parent}
use Rattle.cg_text.specs.Controllers.{IsWithin, is_no_controllers}
use Rattle.cg_text.specs.declared.settings.Settings.{Settings}
use Rattle.cg_model.specs.Tree.{Tree, group, place_of}

-- what a child's settings s ask of its parent's settings u: what the child passes on, the parent passes on to it,
-- and CPUs are asked for only where the cpuset controller is passed on (Top-down Constraint; Cpuset Interface Files)
pub record IsChildOf (u s : Settings) : Type 0 where
  pub control : IsWithin s.control u.control
  pub cpus : is_empty_set s.cpus ≡ false → u.control.cpuset ≡ true

-- the root passes on controllers of the machine alone, isn't frozen, and asks for no CPUs: it has neither file
-- (Availability; Core Interface Files: cgroup.freeze; Cpuset Interface Files)
pub record IsRootOf (T : Tree) (s : Settings) : Type 0 where
  pub control : IsWithin s.control T.controllers
  pub freeze : s.freeze ≡ false
  pub cpus : is_empty_set s.cpus ≡ true

-- whether a group may have processes of its own: the root may, and a group that passes on no controllers (No Internal
-- Process Constraint; that it holds for all controllers alike is this project's own choice)
abbrev pub admits : Path → Settings → Bool
admits p s = is_root p || is_no_controllers s.control

-- a sound tree
pub record Sound (T : Tree) : Type 0 where
  -- the root is a group
  pub root : (s : Settings) × (group T [] ≡ Some s) × IsRootOf T s
  -- each group's parent is a group
  pub child : (p q : Path) (s : Settings) → is_parent p q ≡ true → group T q ≡ Some s → (u : Settings) × (group T p ≡ Some u) × IsChildOf u s
  -- each process is in a group that may have processes
  pub process : (k : ℕ) (p : Path) → place_of T k ≡ Some p → (s : Settings) × (group T p ≡ Some s) × (admits p s ≡ true)
  -- a CPU is online
  pub online : is_empty_set T.online ≡ false
