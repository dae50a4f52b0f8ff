-- Worked runs of the machine on a small world, by computation: how they are written.
use Rattle.std.specs.Prelude.{ℕ, Bool, true, List, [], ◌∷◌, map, codes}
use Rattle.std.proofs.Common.{lit≤}
use Rattle.std.specs.Ordering.{nat_cmp}
use Rattle.std.specs.Fmt.{digits}
use Rattle.cg_maps.specs.FiniteMap.{FiniteMap, empty, checked, get, insert, retain, entries, keys, len, set_at, domain, from_entries}
use Rattle.cg_maps.specs.FiniteSet.{FiniteSet, members, in_common, with_member, set_of, such_that_below}
use Rattle.cg_name.specs.Name.{same_name}
use Rattle.cg_name.specs.Path.{Path, path_cmp, same_path}
use Rattle.cg_text.specs.Apart.{none_apart, apart_turned}
use Rattle.cg_text.specs.Controllers.{no_controllers}
use Rattle.cg_text.specs.Settings.{fresh}
use Rattle.cg_text.specs.declared.control_ops.ControlOps.{ControlOps}
use Rattle.cg_text.specs.declared.controllers.Controllers.{Controllers}
use Rattle.cg_text.specs.declared.limit.Limit.{Limit}
use Rattle.cg_text.specs.declared.limit.Limit.TheVariants.{UpTo}
use Rattle.cg_text.specs.declared.settings.Settings.{Settings}
use Rattle.cg_model.specs.Tree.{Tree}
use Rattle.cg_model.specs.Derived.{children, descendants, processes, processes_in_subtree}
use Rattle.cg_model.specs.Effect.{effect}
use Rattle.cg_model.specs.Footprint.{footprint}
use Rattle.cg_model.specs.Cgroups.{cgroups}
use Rattle.cg_model.specs.History.{Request, Answer}
use Rattle.cg_model.specs.Opens.{numbers, opens}
use Rattle.cg_model.specs.Live.{live}
use Rattle.cg_model.specs.Machine.{Machine, opened}
use Rattle.cg_model.specs.Output.{answers, output}
use Rattle.cg_model.specs.Room.{has_entry}

-- the CPUs from first on, so many of them
unfoldable pub cpus_below : ℕ → FiniteSet
unfolding such_that_below with_member set_at insert empty checked
cpus_below n = such_that_below n (λ _. true)

-- the CPUs of a list
unfoldable pub cpus_of : List ℕ → FiniteSet
unfolding with_member set_at insert empty checked
cpus_of ns = set_of ns

-- the groups of a list, with their settings
unfoldable pub groups_of : List (Path × Settings) → FiniteMap path_cmp Settings
unfolding set_at insert empty checked
groups_of es = from_entries path_cmp es

-- the processes of a list, with their groups
unfoldable pub places_of : List (ℕ × Path) → FiniteMap nat_cmp Path
unfolding set_at insert empty checked
places_of es = from_entries nat_cmp es

-- a machine with eight CPUs, the root, and two processes in it
unfoldable pub small_tree : Tree
unfolding cpus_below groups_of places_of
small_tree = record {
  controllers = record no_controllers { cpuset = true; cpu = true; memory = true };
  online = cpus_below 8;
  groups = groups_of (([], fresh) ∷ []);
  places = places_of ((10, []) ∷ (11, []) ∷ []);
}

-- the world with other groups and places
unfoldable pub w0_with : List (Path × Settings) → List (ℕ × Path) → Tree
unfolding small_tree groups_of places_of
w0_with gs ps = record small_tree { groups = groups_of gs; places = places_of ps }

-- requests of sessions by number
abbrev pub Asked : Type 0
Asked = List (ℕ × Request cgroups)

-- a machine whose history has the greatest bound
abbrev ample : Tree → Machine cgroups
ample T = opened cgroups T 1048576

-- the answers to requests, and the tree at the end; what runs are written with computes here and wherever this does
unfoldable pub played : List Answer × Machine cgroups → List Answer × Tree
unfolding get insert empty checked retain entries keys len set_at domain members in_common with_member such_that_below children descendants processes processes_in_subtree same_name same_path digits effect footprint cpus_below cpus_of small_tree w0_with
played r = (r.0, r.1.tree)

-- a run that its history has room for
unfoldable pub play : Tree → Asked → List Answer × Tree
unfolding played
play T asked = played (answers cgroups (ample T) asked)

-- a run over a history with this bound
unfoldable pub play_within : ℕ → Tree → Asked → List Answer × Tree
unfolding played
play_within bound T asked = played (answers cgroups (opened cgroups T bound) asked)

-- a whole schedule, with the aborts at its end
unfoldable pub play_to_end : Tree → Asked → List Answer × Tree
unfolding played
play_to_end T asked = played (output cgroups (ample T) asked)

-- whether a path has an entry after requests
unfoldable pub has_entry_after : Tree → Asked → Path → Bool
unfolding played
has_entry_after O asked p =
    let m = (answers cgroups (ample O) asked).1 in
    has_entry O (λ t. live t m.history) (numbers (opens m.history)) m.tree p

-- the paths of the runs
abbrev pub /a : Path
/a = codes "a" ∷ []

abbrev pub /b : Path
/b = codes "b" ∷ []

abbrev pub /z : Path
/z = codes "z" ∷ []

abbrev pub /a/b : Path
/a/b = codes "a" ∷ codes "b" ∷ []

abbrev pub /a/c : Path
/a/c = codes "a" ∷ codes "c" ∷ []

abbrev pub /b/c : Path
/b/c = codes "b" ∷ codes "c" ∷ []

-- sets of one controller
abbrev pub cpuset_alone : Controllers
cpuset_alone = record no_controllers { cpuset = true }

abbrev pub cpu_alone : Controllers
cpu_alone = record no_controllers { cpu = true }

abbrev pub io_alone : Controllers
io_alone = record no_controllers { io = true }

-- enable a set, disable a set
abbrev pub enable : Controllers → ControlOps
enable s = record { plus = s; minus = no_controllers; apart = apart_turned _ _ (none_apart s) }

abbrev pub disable : Controllers → ControlOps
disable s = record { plus = no_controllers; minus = s; apart = none_apart s }

-- limits that allow nothing, and one
abbrev pub up_to_0 : Limit
up_to_0 = UpTo (record { number = 0; in_range = lit≤ tt })

abbrev pub up_to_1 : Limit
up_to_1 = UpTo (record { number = 1; in_range = lit≤ tt })

-- a group with this control, and nothing else but what a new one has
abbrev pub passing_on : Controllers → Settings
passing_on s = record fresh { control = s }

-- requests of one session
abbrev pub by : ℕ → List (Request cgroups) → Asked
by s rs = map (λ r. (s, r)) rs
