use Rattle.std.proofs.Common.{subst}
use Rattle.cg_capi.specs.Calls.{holds}
use Rattle.cg_line_machine.specs.declared.status.Status.{Status}
use Rattle.cg_line_machine.specs.Teller.{TextTold, Told}
use Rattle.cg_script.specs.HistoryText.{history_text}
use Rattle.cg_capi.proofs.Behind.{on_some}
use Rattle.cg_capi.proofs.cgtx_raw_history.Goals as goal

pub returns : goal.returns
returns c =
    on_some (holds c.args.handle.now) (holds c.put.new.self) c.number-2.result (λ (s : Told) (status : Status) (t : Told). TextTold (history_text s.machine.core.history) s status t)
    c.in-Some.teller.value c.tell_history-status.new.self c.tell_history-status.result c.in-Some.ensures.taken c.put.ensures
    (subst (λ (v : Told). TextTold (history_text v.machine.core.history) v c.tell_history-status.result c.tell_history-status.new.self) c.deref_mut.ensures.value c.tell_history-status.ensures) c.number-2.ensures
