-- Sets of controllers that pass a test, and tests that none passes.
use Rattle.std.proofs.Common.{◌≡◌, Bool, true, false, cond, not, List, [], ◌∷◌, refl, ap, filter}
use Rattle.std.specs.List.{AllByRecursion}
use Rattle.cg_maps.specs.FiniteMap.{is_nonempty}
use Rattle.cg_name.specs.declared.controller.Controller.{Controller}
use Rattle.cg_name.specs.declared.controller.Controller.TheVariants.{Cpuset, Cpu, Io, Memory, Hugetlb, Pids, Rdma, Misc}
use Rattle.cg_text.specs.Controllers.{has, such_that, all_controllers}
use Rattle.cg_model_laws.proofs.Paths.{never}

pub has-such_that : (f : Controller → Bool) (c : Controller) → has (such_that f) c ≡ f c
has-such_that f Cpuset = refl
has-such_that f c = refl

none_kept : (f : Controller → Bool) (xs : List Controller) → filter f xs ≡ [] → AllByRecursion (λ x. f x ≡ false) xs
none_kept f [] e = tt
none_kept f (x ∷ xs) e =
    elim (f x) as (λ b. f x ≡ b → cond b (x ∷ filter f xs) (filter f xs) ≡ [] → (f x ≡ false) × AllByRecursion (λ x. f x ≡ false) xs) [
      | true ↦ λ k h. never (ap (λ ys. not (is_nonempty ys)) h)
      | false ↦ λ k h. (k, none_kept f xs h)
    ] refl e

each_controller : (P : Controller → Type 0) → AllByRecursion P all_controllers → (c : Controller) → P c
each_controller P h Cpuset = h.0
each_controller P h Cpu = h.1.0
each_controller P h Io = h.1.1.0
each_controller P h Memory = h.1.1.1.0
each_controller P h Hugetlb = h.1.1.1.1.0
each_controller P h Pids = h.1.1.1.1.1.0
each_controller P h Rdma = h.1.1.1.1.1.1.0
each_controller P h Misc = h.1.1.1.1.1.1.1.0

-- where no controller is kept, each fails the test
pub none_passes : (f : Controller → Bool) → filter f all_controllers ≡ [] → (c : Controller) → f c ≡ false
none_passes f e c = each_controller (λ x. f x ≡ false) (none_kept f all_controllers e) c
