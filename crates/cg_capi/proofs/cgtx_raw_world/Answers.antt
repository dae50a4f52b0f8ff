use Rattle.std.proofs.Common.{subst}
use Rattle.cg_capi.specs.Calls.{holds}
use Rattle.cg_line_machine.specs.declared.status.Status.{Status}
use Rattle.cg_line_machine.specs.Teller.{TextTold, Told}
use Rattle.cg_replay.specs.Replay.{tree_now}
use Rattle.cg_world_text.specs.World.{world_text}
use Rattle.cg_capi.proofs.Behind.{on_some}
use Rattle.cg_capi.proofs.cgtx_raw_world.Goals as goal

pub returns : goal.returns
returns c =
    on_some (holds c.args.handle.now) (holds c.put.new.self) c.number-2.result (λ (s : Told) (status : Status) (t : Told). TextTold (world_text (tree_now s.machine.core)) s status t)
    c.in-Some.teller.value c.tell_world-status.new.self c.tell_world-status.result c.in-Some.ensures.taken c.put.ensures
    (subst (λ (v : Told). TextTold (world_text (tree_now v.machine.core)) v c.tell_world-status.result c.tell_world-status.new.self) c.deref_mut.ensures.value c.tell_world-status.ensures) c.number-2.ensures
