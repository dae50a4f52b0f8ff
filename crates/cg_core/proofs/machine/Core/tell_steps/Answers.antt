use Rattle.std.proofs.Common.{subst}
use Rattle.cg_core_laws.specs.MachineOf.{StepsOn}
use Rattle.cg_core.specs.State.{StepsAsReplied}
use Rattle.cg_core.proofs.TheLaws.{steps_law}
use Rattle.cg_core.proofs.machine.Core.tell_steps.Goals as goal

pub returns : goal.returns
returns c = subst StepsAsReplied c.self.view_is (λ s r proper.
    let on : StepsOn c.self.inside.opening c.self.inside.limit c.self.inside.history.0 s r = steps_law _ _ _ s r c.self.invariant.sound c.self.invariant.reached proper in
    λ i. (on.machine i, on.answer i))
