use Rattle.std.proofs.Common.{subst}
use Rattle.cg_capi.specs.Calls.{holds}
use Rattle.cg_line_machine.specs.declared.status.Status.{Status}
use Rattle.cg_line_machine.specs.Teller.{AnswerTold, Told}
use Rattle.cg_capi.proofs.Behind.{on_some}
use Rattle.cg_capi.proofs.cgtx_raw_answer.Goals as goal

pub returns : goal.returns
returns c =
    on_some (holds c.args.handle.now) (holds c.put.new.self) c.number-2.result (λ (s : Told) (status : Status) (t : Told). AnswerTold s status t)
    c.in-Some.teller.value c.tell_answer-status.new.self c.tell_answer-status.result c.in-Some.ensures.taken c.put.ensures
    (subst (λ (v : Told). AnswerTold v c.tell_answer-status.result c.tell_answer-status.new.self) c.deref_mut.ensures.value c.tell_answer-status.ensures) c.number-2.ensures
