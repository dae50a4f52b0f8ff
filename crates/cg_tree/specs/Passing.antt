-- How many of the groups right below a path pass on each controller.
use Rattle.std.specs.Prelude.{◌<◌, ◌+◌, ◌-◌, ◌^◌, ◌&&◌, ℕ, Bool, true, false, cond, Option, Some, None}
use Rattle.cg_maps.specs.FiniteMap.{FiniteMap, get, len, retain}
use Rattle.cg_name.specs.declared.controller.Controller.{Controller}
use Rattle.cg_name.specs.declared.controller.Controller.TheVariants.{Cpuset, Cpu, Io, Memory, Hugetlb, Pids, Rdma, Misc}
use Rattle.cg_name.specs.Path.{Path, path_cmp, is_parent}
use Rattle.cg_text.specs.Controllers.{has, no_controllers}
use Rattle.cg_text.specs.declared.controllers.Controllers.{Controllers}
use Rattle.cg_text.specs.declared.settings.Settings.{Settings}
use Rattle.cg_tree.specs.declared.passing.Passing.{Passing}
use Rattle.cg_tree.specs.Present.{present}

-- the controllers that a group passes on, none where there is no group
abbrev pub control_of : Option Settings → Controllers
control_of None = no_controllers
control_of (Some s) = s.control

-- the number of groups right below p that pass on the controller
abbrev pub passing_count : FiniteMap path_cmp (Option Settings) → Path → Controller → ℕ
passing_count m p c = len (retain (present m) (λ q. is_parent p q && has (control_of (get (present m) q)) c))

-- the count of a controller
abbrev pub times : Passing → Controller → ℕ
times n Cpuset = n.cpuset
times n Cpu = n.cpu
times n Io = n.io
times n Memory = n.memory
times n Hugetlb = n.hugetlb
times n Pids = n.pids
times n Rdma = n.rdma
times n Misc = n.misc

-- these counts
abbrev pub tally : (Controller → ℕ) → Passing
tally f = record { cpuset = f Cpuset; cpu = f Cpu; io = f Io; memory = f Memory; hugetlb = f Hugetlb; pids = f Pids; rdma = f Rdma; misc = f Misc }

-- ---- a group that passes on others than before

-- a count, by whether the group was counted before and is counted after
abbrev pub step : Bool → Bool → ℕ → ℕ
step true true n = n
step true false n = n - 1
step false true n = n + 1
step false false n = n

-- the count can be so changed
abbrev pub CanStep : Bool → Bool → ℕ → Type 0
CanStep true true n = Unit {0}
CanStep true false n = 0 < n
CanStep false true n = n + 1 < 2 ^ 32
CanStep false false n = Unit {0}

-- the counts, as one of the groups passes on the second set in place of the first
abbrev pub stepped : Controllers → Controllers → Passing → Passing
stepped before after n = tally (λ c. step (has before c) (has after c) (times n c))

-- where it is right below
abbrev pub stepped_if : Bool → Controllers → Controllers → Passing → Passing
stepped_if here before after n = cond here (stepped before after n) n

-- the counts can be so changed
abbrev pub CanPass : Controllers → Controllers → Passing → Type 0
CanPass before after n = (c : Controller) → CanStep (has before c) (has after c) (times n c)
