-- Sets of controllers, controller by controller.
use Rattle.std.proofs.Common.{◌≡◌, ◌↔◌, ℕ, ◌==◌, Bool, true, false, not, IsTrue, cond, refl, sym, ap, ◌∙◌, true≢false}
use Rattle.cg_maps.specs.FiniteMap.{is_nonempty}
use Rattle.cg_name.specs.declared.controller.Controller.{Controller}
use Rattle.cg_name.specs.declared.controller.Controller.TheVariants.{Cpuset, Cpu, Io, Memory, Hugetlb, Pids, Rdma, Misc}
use Rattle.cg_text.specs.Controllers.{has, such_that, no_controllers, is_no_controllers, members, with_controller, without_controller}
use Rattle.cg_text.specs.declared.controllers.Controllers.{Controllers}

abbrev index : Controller → ℕ
index Cpuset = 0
index Cpu = 1
index Io = 2
index Memory = 3
index Hugetlb = 4
index Pids = 5
index Rdma = 6
index Misc = 7

-- whether the two are one controller
abbrev pub is : Controller → Controller → Bool
is c d = index c == index d

has_such_that : (f : Controller → Bool) (c : Controller) → has (such_that f) c ≡ f c
has_such_that f Cpuset = refl
has_such_that f Cpu = refl
has_such_that f Io = refl
has_such_that f Memory = refl
has_such_that f Hugetlb = refl
has_such_that f Pids = refl
has_such_that f Rdma = refl
has_such_that f Misc = refl

pub has_none : (c : Controller) → has no_controllers c ≡ false
has_none c = has_such_that (λ d. false) c

with_all : (c : Controller) (s : Controllers) → with_controller c s ≡ such_that (λ d. cond (is c d) true (has s d))
with_all Cpuset s = refl
with_all Cpu s = refl
with_all Io s = refl
with_all Memory s = refl
with_all Hugetlb s = refl
with_all Pids s = refl
with_all Rdma s = refl
with_all Misc s = refl

without_all : (c : Controller) (s : Controllers) → without_controller c s ≡ such_that (λ d. cond (is c d) false (has s d))
without_all Cpuset s = refl
without_all Cpu s = refl
without_all Io s = refl
without_all Memory s = refl
without_all Hugetlb s = refl
without_all Pids s = refl
without_all Rdma s = refl
without_all Misc s = refl

pub has_with : (c d : Controller) (s : Controllers) → has (with_controller c s) d ≡ cond (is c d) true (has s d)
has_with c d s = ap (λ t. has t d) (with_all c s) ∙ has_such_that (λ e. cond (is c e) true (has s e)) d

pub has_without : (c d : Controller) (s : Controllers) → has (without_controller c s) d ≡ cond (is c d) false (has s d)
has_without c d s = ap (λ t. has t d) (without_all c s) ∙ has_such_that (λ e. cond (is c e) false (has s e)) d

-- two sets with the same controllers are one
pub same_set : (s t : Controllers) → ((c : Controller) → has s c ≡ has t c) → s ≡ t
same_set s t e = λ i. such_that (λ c. e c i)

-- a set that is not the empty one has a controller
left : (a b c d e f g h : Bool)
    → (record { cpuset = a; cpu = b; io = c; memory = d; hugetlb = e; pids = f; rdma = g; misc = h } ≡ no_controllers → ⊥)
    → is_no_controllers (record { cpuset = a; cpu = b; io = c; memory = d; hugetlb = e; pids = f; rdma = g; misc = h }) ≡ false
left true b c d e f g h other = refl
left false true c d e f g h other = refl
left false false true d e f g h other = refl
left false false false true e f g h other = refl
left false false false false true f g h other = refl
left false false false false false true g h other = refl
left false false false false false false true h other = refl
left false false false false false false false true other = refl
left false false false false false false false false other = absurd (other refl)

-- the empty set is told by the test
pub tells_none : (s : Controllers) (r : Bool) → (IsTrue r ↔ (s ≡ no_controllers)) → is_no_controllers s ≡ r
tells_none s true h = ap is_no_controllers (h.0 refl)
tells_none s false h = left s.cpuset s.cpu s.io s.memory s.hugetlb s.pids s.rdma s.misc (λ e. true≢false (sym (h.1 e)))

-- whether there is a member
some_of : (a b c d e f g h : Bool)
    → is_nonempty (members (record { cpuset = a; cpu = b; io = c; memory = d; hugetlb = e; pids = f; rdma = g; misc = h }))
    ≡ not (is_no_controllers (record { cpuset = a; cpu = b; io = c; memory = d; hugetlb = e; pids = f; rdma = g; misc = h }))
some_of true b c d e f g h = refl
some_of false true c d e f g h = refl
some_of false false true d e f g h = refl
some_of false false false true e f g h = refl
some_of false false false false true f g h = refl
some_of false false false false false true g h = refl
some_of false false false false false false true h = refl
some_of false false false false false false false true = refl
some_of false false false false false false false false = refl

pub some_member : (s : Controllers) → is_nonempty (members s) ≡ not (is_no_controllers s)
some_member s = some_of s.cpuset s.cpu s.io s.memory s.hugetlb s.pids s.rdma s.misc
