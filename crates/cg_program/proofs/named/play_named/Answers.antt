use Rattle.std.specs.Option.{option_map}
use Rattle.cg_lines.specs.Lines.{pending}
use Rattle.cg_script.specs.HistoryText.{history_text}
use Rattle.cg_program.specs.Files.{IsFileNamed}
use Rattle.cg_program.specs.Program.{DoneOver, Plays, Stops}
use Rattle.cg_program.proofs.NamedLemmas.{is_given, played_named, stopped_named, unkept_named, with_none, with_some}
use Rattle.cg_program.proofs.named.play_named.Goals as goal

pub returns-in-None-clause-done : goal.returns-in-None-clause-done
returns-in-None-clause-done g c =
    let old = g.O.Sink.taken c.args.out.now in
    let new = g.O.Sink.taken c.play_alone.new.out in
    let left = pending c.in-Ok.first in
    let nothing = g.P.Outputs.nothing in
    let file = g.P.Inputs.file c.args.files.now in
    let name = c.args.history in
    let played = c.play_alone.result in
    played_named (g.P.Inputs.standard c.args.files.now) file c.args.world.now c.args.schedule.now left c.in-Ok.second c.in-Ok.ensures.world c.in-Ok.ensures.schedule
    (λ b past tree lines. Plays (g.B.Playback.plays c.args.playback.now tree 1048576) b past lines old new)
    (λ past. IsFileNamed nothing file (option_map (λ w. w.now) name) (history_text past)) played
    (with_none (λ b past. DoneOver (λ tree lines. Plays (g.B.Playback.plays c.args.playback.now tree 1048576) b past lines old new) left c.in-Ok.second) nothing file (λ w. w.now) name played c.in-None.is c.play_alone.ensures.done)

pub returns-in-None-clause-front : goal.returns-in-None-clause-front
returns-in-None-clause-front g c =
    let old = g.O.Sink.taken c.args.out.now in
    let new = g.O.Sink.taken c.play_alone.new.out in
    stopped_named (g.P.Inputs.standard c.args.files.now) (g.P.Inputs.file c.args.files.now) c.args.world.now c.args.schedule.now (pending c.in-Ok.first) c.in-Ok.second c.in-Ok.ensures.world c.in-Ok.ensures.schedule _ _
    (λ tree lines. Stops (g.B.Playback.tells c.args.playback.now tree 1048576) lines old new) c.play_alone.result c.play_alone.ensures.front

pub returns-in-Ok-create_history-clause-done : goal.returns-in-Ok-create_history-clause-done
returns-in-Ok-create_history-clause-done g c =
    let old = g.O.Sink.taken c.args.out.now in
    let new = g.O.Sink.taken c.play_kept.new.out in
    let left = pending c.in-Ok.first in
    let nothing = g.P.Outputs.nothing in
    let file = g.P.Inputs.file c.play_kept.new.files in
    let name = c.args.history in
    let played = c.play_kept.result in
    played_named (g.P.Inputs.standard c.args.files.now) (g.P.Inputs.file c.args.files.now) c.args.world.now c.args.schedule.now left c.in-Ok.second c.in-Ok.ensures.world c.in-Ok.ensures.schedule
    (λ b past tree lines. Plays (g.B.Playback.plays c.args.playback.now tree 1048576) b past lines old new)
    (λ past. IsFileNamed nothing file (option_map (λ w. w.now) name) (history_text past)) played
    (with_some (λ b past. DoneOver (λ tree lines. Plays (g.B.Playback.plays c.args.playback.now tree 1048576) b past lines old new) left c.in-Ok.second) nothing file (λ w. w.now) name c.in-Some.name played c.in-Some.is c.play_kept.ensures.done)

pub returns-in-Ok-create_history-clause-front : goal.returns-in-Ok-create_history-clause-front
returns-in-Ok-create_history-clause-front g c =
    let old = g.O.Sink.taken c.args.out.now in
    let new = g.O.Sink.taken c.play_kept.new.out in
    unkept_named (g.P.Inputs.standard c.args.files.now) (g.P.Inputs.file c.args.files.now) c.args.world.now c.args.schedule.now (pending c.in-Ok.first) c.in-Ok.second c.in-Ok.ensures.world c.in-Ok.ensures.schedule _
    (λ tree lines. Stops (g.B.Playback.tells c.args.playback.now tree 1048576) lines old new)
    (λ b past tree lines. Plays (g.B.Playback.plays c.args.playback.now tree 1048576) b past lines old new) c.play_kept.result (is_given c.args.history c.in-Some.name c.in-Some.is) c.play_kept.ensures.front
