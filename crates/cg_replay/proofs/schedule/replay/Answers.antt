use Rattle.std.proofs.Common.{◌≡◌, List, ℕ, Option, Some, None, subst}
use Rattle.std.specs.Prelude.{IfSome}
use Rattle.std.specs.Io.KnownBytes.{Appends}
use Rattle.std.proofs.lemmas.Result.{err_from_is_err_and}
use Rattle.cg_lines.specs.Device.{AppendsFront}
use Rattle.cg_lines.specs.Lines.{pending}
use Rattle.cg_model.specs.Cgroups.{cgroups}
use Rattle.cg_model.specs.History.{History}
use Rattle.cg_model.specs.Sound.{Sound}
use Rattle.cg_model.specs.Tree.{Tree}
use Rattle.cg_replay.specs.MachineOutput.{IsMachineOutput}
use Rattle.cg_replay.specs.Replay.{opened, AnswersPassed, IsOutputFrom, IsOutputAndHistoryFrom, Replay}
use Rattle.cg_replay.proofs.MachineOutputs.{outputs_are_the_machines}
use Rattle.cg_replay.proofs.Playing.{err_again, front_nothing, played_whole}
use Rattle.cg_script.specs.declared.fault.ScriptFault.TheVariants as faults
use Rattle.cg_replay.proofs.schedule.replay.Goals as goal

pub returns-in_err-player-clause-front : goal.returns-in_err-player-clause-front
returns-in_err-player-clause-front g c =
    let p = err_from_is_err_and c.from_residual.result c.from_residual.ensures.1 in
    rw p.1 (front_nothing (opened c.args.world c.args.limit) (pending c.args.reader.now) (g.K.Sink.taken c.args.sink.now))

pub returns-in-Err-clause-passed : goal.returns-in-Err-clause-passed
returns-in-Err-clause-passed g c = λ broken.
    subst (λ s. IfSome (pending c.args.reader.now) (λ text. AnswersPassed s text (pending c.play.new.reader) (g.K.Sink.taken c.args.sink.now) (g.K.Sink.taken c.play.new.sink)))
    c.in_ok-player.ensures (c.in-Err.ensures.passed (err_again c.in-Err.fault faults.ReadFault broken))

-- what was written is the machine's output
machines_output : (T : Tree) (limit : ℕ) (s : Replay) (text was is : Option (List ℕ)) (h : History cgroups) → Sound T → s ≡ opened T limit →
    IfSome text (λ t. (out : List ℕ) × IsOutputAndHistoryFrom s t out h × Appends was is out) → IfSome text (λ t. (out : List ℕ) × IsMachineOutput T limit t out × Appends was is out)
machines_output T limit s None was is h sound same p = p
machines_output T limit s (Some t) was is h sound same p = (p.0, outputs_are_the_machines T limit t p.0 sound (subst (λ r. IsOutputFrom r t p.0) same p.1.0), p.2)

pub returns-in-Ok-clause-output : goal.returns-in-Ok-clause-output
returns-in-Ok-clause-output g c =
    played_whole c.args.world c.args.limit c.in_ok-player.player (pending c.args.reader.now) (g.K.Sink.taken c.args.sink.now) (g.K.Sink.taken c.play.new.sink) c.play.new.player.core c.into_core.result c.in_ok-player.ensures c.into_core.ensures c.in-Ok.ensures.output

pub returns-in-Err-clause-front : goal.returns-in-Err-clause-front
returns-in-Err-clause-front g c =
    subst (λ s. IfSome (pending c.args.reader.now) (λ text. (out : List ℕ) → IsOutputFrom s text out → AppendsFront (g.K.Sink.taken c.args.sink.now) (g.K.Sink.taken c.play.new.sink) out))
    c.in_ok-player.ensures c.in-Err.ensures.front

pub returns-in-Ok-clause-machine : goal.returns-in-Ok-clause-machine
returns-in-Ok-clause-machine g c =
    machines_output c.args.world c.args.limit _ (pending c.args.reader.now) (g.K.Sink.taken c.args.sink.now) (g.K.Sink.taken c.play.new.sink) _ c.tree.ensures.sound c.in_ok-player.ensures
    c.in-Ok.ensures.output
