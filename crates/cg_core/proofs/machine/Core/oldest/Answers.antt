use Rattle.std.proofs.Common.{ap, ◌∙◌}
use Rattle.cg_model.specs.Opens.{opens}
use Rattle.cg_history.specs.SessionMap.{oldest}
use Rattle.cg_core.proofs.Open.{oldest_there}
use Rattle.cg_core.proofs.machine.Core.oldest.Goals as goal

pub returns : goal.returns
returns c = c.oldest.ensures ∙ oldest_there _ _ _ _ c.self.invariant.transactions ∙ ap (λ v. oldest (opens v.history)) c.self.view_is
