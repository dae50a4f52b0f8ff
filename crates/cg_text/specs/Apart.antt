-- Sets that share no controller stay apart.
use Rattle.std.proofs.Common.{◌≡◌, Bool, true, false, refl, sym, ◌∙◌}
use Rattle.cg_name.specs.declared.controller.Controller.{Controller}
use Rattle.cg_name.specs.declared.controller.Controller.TheVariants.{Cpuset, Cpu, Io, Memory, Hugetlb, Pids, Rdma, Misc}
use Rattle.cg_text.specs.Controllers.{has, no_controllers, with_controller, without_controller, AreApart}
use Rattle.cg_text.specs.declared.controllers.Controllers.{Controllers}

pub none_apart : (s : Controllers) → AreApart no_controllers s
none_apart s Cpuset e = cc e
none_apart s c e = cc e

pub apart_turned : (s t : Controllers) → AreApart s t → AreApart t s
apart_turned s t h c e = at (has s c) refl
  where
    at : (b : Bool) → has s c ≡ b → b ≡ false
    at true f = sym e ∙ h c f
    at false f = refl

-- where the first gets a controller that the second loses
pub apart_moved : (d : Controller) (s t : Controllers) → AreApart s t → AreApart (with_controller d s) (without_controller d t)
apart_moved Cpuset s t h Cpuset e = refl
apart_moved Cpuset s t h c e = h c e
apart_moved Cpu s t h Cpu e = refl
apart_moved Cpu s t h c e = h c e
apart_moved Io s t h Io e = refl
apart_moved Io s t h c e = h c e
apart_moved Memory s t h Memory e = refl
apart_moved Memory s t h c e = h c e
apart_moved Hugetlb s t h Hugetlb e = refl
apart_moved Hugetlb s t h c e = h c e
apart_moved Pids s t h Pids e = refl
apart_moved Pids s t h c e = h c e
apart_moved Rdma s t h Rdma e = refl
apart_moved Rdma s t h c e = h c e
apart_moved Misc s t h Misc e = refl
apart_moved Misc s t h c e = h c e
