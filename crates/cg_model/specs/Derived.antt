-- What is derived from the tree: who is in a group and below it, what is available, frozen, populated and effective
-- (cgroup-v2; the section stands with each value).
use Rattle.std.specs.Prelude.{ℕ, Bool, false, cond, List, [], ◌∷◌, ◌++◌, drop, Option, Some, None, option_map, option_and_then}
use Rattle.std.specs.List.{list_any}
use Rattle.cg_maps.specs.FiniteMap.{retain, domain, entries, keys, len, is_nonempty}
use Rattle.cg_maps.specs.FiniteSet.{FiniteSet, is_empty_set, in_common}
use Rattle.cg_name.specs.Path.{Path, same_path, is_root, is_prefix, is_above, is_parent}
use Rattle.cg_text.specs.declared.controllers.Controllers.{Controllers}
use Rattle.cg_text.specs.declared.settings.Settings.{Settings}
use Rattle.cg_model.specs.Tree.{Tree, group, place_of, above, parent_group}

-- the children of p with their settings, in order (Organizing Processes and Threads: Processes)
unfoldable pub children : Tree → Path → List (Path × Settings)
children T p = entries (retain T.groups (is_parent p))

-- the number of groups below p (Core Interface Files: cgroup.max.descendants)
unfoldable pub descendants : Tree → Path → ℕ
descendants T p = len (retain (domain T.groups) (is_above p))

-- a process is in p itself
abbrev pub is_in : Path → Option Path → Bool
is_in p None = false
is_in p (Some q) = same_path p q

-- a process is in the subtree of p: in p or in a group below it
abbrev pub is_in_subtree : Path → Option Path → Bool
is_in_subtree p None = false
is_in_subtree p (Some q) = is_prefix p q

-- the PIDs of p's own processes, ascending (Core Interface Files: cgroup.procs)
unfoldable pub processes : Tree → Path → List ℕ
processes T p = keys (retain T.places (λ k. is_in p (place_of T k)))

-- the PIDs of the processes of p and of all groups below it
unfoldable pub processes_in_subtree : Tree → Path → List ℕ
processes_in_subtree T p = keys (retain T.places (λ k. is_in_subtree p (place_of T k)))

-- the controllers that a group has: the root the machine's, another what its parent passes on; none for an absent group
-- (Controlling Controllers: Top-down Constraint; Core Interface Files: cgroup.controllers)
abbrev pub available : Tree → Path → Option Controllers
available T p = option_and_then (λ s. cond (is_root p) (Some T.controllers) (option_map (λ u. u.control) (parent_group T p))) (group T p)

-- the controllers are known, and cpuset is among them
abbrev pub with_cpuset : Option Controllers → Bool
with_cpuset None = false
with_cpuset (Some a) = a.cpuset

-- the group is there, and its own freeze value is 1
abbrev pub has_freeze : Option Settings → Bool
has_freeze None = false
has_freeze (Some s) = s.freeze

-- the groups from below the root down to p
abbrev pub down_to : Tree → Path → List (Option Settings)
down_to T p = drop 1 (above T p ++ group T p ∷ [])

-- the group's own freeze value or that of a group above it is 1; the root has none (Core Interface Files: cgroup.freeze)
abbrev pub is_frozen : Tree → Path → Bool
is_frozen T p = list_any has_freeze (down_to T p)

-- the group or one below it has a process (Un-populated Notification; Core Interface Files: cgroup.events)
abbrev pub is_populated : Tree → Path → Bool
is_populated T p = is_nonempty (processes_in_subtree T p)

-- the CPUs of one group, from those of its parent: what it asks for, or all of them where nothing of that is there
-- (Cpuset Interface Files: cpuset.cpus)
abbrev pub narrowed : FiniteSet → Option Settings → FiniteSet
narrowed e None = e
narrowed e (Some s) = cond (is_empty_set (in_common s.cpus e)) e (in_common s.cpus e)

-- narrowed by one group after another, the first one first
abbrev pub narrowed_along : FiniteSet → List (Option Settings) → FiniteSet
narrowed_along e [] = e
narrowed_along e (s ∷ ss) = narrowed_along (narrowed e s) ss

-- the online CPUs, narrowed by each group from below the root down to p (Cpuset Interface Files: cpuset.cpus.effective)
abbrev pub effective_cpus : Tree → Path → FiniteSet
effective_cpus T p = narrowed_along T.online (down_to T p)

-- a value of a present group below the root
abbrev pub below_root : {A : Type 0} → Path → Option Settings → A → Option A
below_root p s x = option_and_then (λ _. cond (is_root p) None (Some x)) s

-- the values by group: none for the root and for an absent group
abbrev pub populated : Tree → Path → Option Bool
populated T p = below_root p (group T p) (is_populated T p)

-- whether it is frozen
abbrev pub frozen : Tree → Path → Option Bool
frozen T p = below_root p (group T p) (is_frozen T p)

-- none where the group is absent or hasn't the cpuset controller
abbrev pub effective : Tree → Path → Option FiniteSet
effective T p = cond (with_cpuset (available T p)) (Some (effective_cpus T p)) None
