-- Sets of controllers.
use Rattle.std.specs.Prelude.{◌≡◌, Bool, true, false, not, ◌||◌, List, [], ◌∷◌, filter}
use Rattle.std.specs.List.{list_any, list_all}
use Rattle.cg_name.specs.declared.controller.Controller.{Controller}
use Rattle.cg_name.specs.declared.controller.Controller.TheVariants.{Cpuset, Cpu, Io, Memory, Hugetlb, Pids, Rdma, Misc}
use Rattle.cg_text.specs.declared.controllers.Controllers.{Controllers}

-- whether the set has the controller
abbrev pub has : Controllers → Controller → Bool
has s Cpuset = s.cpuset
has s Cpu = s.cpu
has s Io = s.io
has s Memory = s.memory
has s Hugetlb = s.hugetlb
has s Pids = s.pids
has s Rdma = s.rdma
has s Misc = s.misc

-- the set of the controllers that pass the test
abbrev pub such_that : (Controller → Bool) → Controllers
such_that f = record { cpuset = f Cpuset; cpu = f Cpu; io = f Io; memory = f Memory; hugetlb = f Hugetlb; pids = f Pids; rdma = f Rdma; misc = f Misc }

-- in the kernel's order
abbrev pub all_controllers : List Controller
all_controllers = Cpuset ∷ Cpu ∷ Io ∷ Memory ∷ Hugetlb ∷ Pids ∷ Rdma ∷ Misc ∷ []

abbrev pub no_controllers : Controllers
no_controllers = such_that (λ c. false)

-- the set and one controller more
abbrev pub with_controller : Controller → Controllers → Controllers
with_controller Cpuset s = record s { cpuset = true }
with_controller Cpu s = record s { cpu = true }
with_controller Io s = record s { io = true }
with_controller Memory s = record s { memory = true }
with_controller Hugetlb s = record s { hugetlb = true }
with_controller Pids s = record s { pids = true }
with_controller Rdma s = record s { rdma = true }
with_controller Misc s = record s { misc = true }

-- the set without one controller
abbrev pub without_controller : Controller → Controllers → Controllers
without_controller Cpuset s = record s { cpuset = false }
without_controller Cpu s = record s { cpu = false }
without_controller Io s = record s { io = false }
without_controller Memory s = record s { memory = false }
without_controller Hugetlb s = record s { hugetlb = false }
without_controller Pids s = record s { pids = false }
without_controller Rdma s = record s { rdma = false }
without_controller Misc s = record s { misc = false }

-- the controllers of a set, in the kernel's order
abbrev pub members : Controllers → List Controller
members s = filter (has s) all_controllers

abbrev pub is_no_controllers : Controllers → Bool
is_no_controllers s = not (list_any (has s) all_controllers)

-- whether every controller of the first set is in the second
abbrev pub is_within : Controllers → Controllers → Bool
is_within s t = list_all (λ c. not (has s c) || has t c) all_controllers

-- every controller of the first set is in the second
abbrev pub IsWithin : Controllers → Controllers → Type 0
IsWithin s t = (c : Controller) → has s c ≡ true → has t c ≡ true

-- no controller is in both sets
abbrev pub AreApart : Controllers → Controllers → Type 0
AreApart s t = (c : Controller) → has s c ≡ true → has t c ≡ false
