use Rattle.std.proofs.Common.{◌≡◌, ℕ, subst}
use Rattle.cg_locks.specs.Holdings.{holdings}
use Rattle.cg_model.specs.Footprint.{Mark}
use Rattle.cg_core.specs.Held.{times_held}
use Rattle.cg_core.specs.State.{CoreState}
use Rattle.cg_core.proofs.machine.Core.locks.Goals as goal

pub returns : goal.returns
returns c = subst (λ (v : CoreState). (u : ℕ) (m : Mark) → holdings c.self.inside.locks u m ≡ times_held v u m) c.self.view_is c.self.invariant.holds.held
