use Rattle.std.proofs.Common.{subst}
use Rattle.cg_capi.specs.Calls.{holds}
use Rattle.cg_line_machine.specs.declared.status.Status.{Status}
use Rattle.cg_line_machine.specs.Teller.{StepsTold, Told}
use Rattle.cg_capi.proofs.Behind.{on_some}
use Rattle.cg_capi.proofs.cgtx_raw_step.Goals as goal

pub returns : goal.returns
returns c =
    on_some (holds c.args.handle.now) (holds c.put.new.self) c.number-2.result (λ (s : Told) (status : Status) (t : Told). StepsTold s c.args.line.now status t)
    c.in-Some.teller.value c.step-status.new.self c.step-status.result c.in-Some.ensures.taken c.put.ensures
    (subst (λ (v : Told). StepsTold v c.args.line.now c.step-status.result c.step-status.new.self) c.deref_mut.ensures.value c.step-status.ensures) c.number-2.ensures
