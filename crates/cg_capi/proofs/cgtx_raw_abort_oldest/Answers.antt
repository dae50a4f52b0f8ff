use Rattle.std.proofs.Common.{subst}
use Rattle.cg_capi.specs.Calls.{holds}
use Rattle.cg_line_machine.specs.declared.status.Status.{Status}
use Rattle.cg_line_machine.specs.Teller.{AbortsTold, Told}
use Rattle.cg_capi.proofs.Behind.{on_some}
use Rattle.cg_capi.proofs.cgtx_raw_abort_oldest.Goals as goal

pub returns : goal.returns
returns c =
    on_some (holds c.args.handle.now) (holds c.put.new.self) c.number-2.result (λ (s : Told) (status : Status) (t : Told). AbortsTold s status t)
    c.in-Some.teller.value c.abort_oldest-status.new.self c.abort_oldest-status.result c.in-Some.ensures.taken c.put.ensures
    (subst (λ (v : Told). AbortsTold v c.abort_oldest-status.result c.abort_oldest-status.new.self) c.deref_mut.ensures.value c.abort_oldest-status.ensures) c.number-2.ensures
