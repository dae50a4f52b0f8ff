use Rattle.std.specs.Prelude.{Some, None}
use Rattle.cg_lines.specs.Lines.{pending}
use Rattle.cg_program.specs.Program.{Plays, Stops}
use Rattle.cg_program.proofs.ProgramLemmas.{played_giving, stopped}
use Rattle.cg_program.proofs.replaying.play.Goals as goal

pub returns-in-None-clause-done : goal.returns-in-None-clause-done
returns-in-None-clause-done g c =
    let old = g.O.Sink.taken c.args.out.now in
    let new = g.O.Sink.taken c.play.new.sink in
    played_giving (λ played tree lines. Plays (g.B.Playback.plays c.args.playback.now tree 1048576) played.is_refused played.core.history lines old new) c.play.result (pending c.args.world.now) (pending c.read_world.new.reader) c.args.schedule.now None c.in-Ok.tree c.in-None.is c.in-Ok.ensures.value c.play.ensures.output

pub returns-in-None-clause-front : goal.returns-in-None-clause-front
returns-in-None-clause-front g c =
    let old = g.O.Sink.taken c.args.out.now in
    let new = g.O.Sink.taken c.play.new.sink in
    stopped _ (λ tree lines. Stops (g.B.Playback.tells c.args.playback.now tree 1048576) lines old new) c.play.result (pending c.args.world.now) (pending c.read_world.new.reader) c.args.schedule.now None c.in-Ok.tree c.in-None.is c.in-Ok.ensures.value c.play.ensures.front

pub returns-in-Some-clause-done : goal.returns-in-Some-clause-done
returns-in-Some-clause-done g c =
    let old = g.O.Sink.taken c.args.out.now in
    let new = g.O.Sink.taken c.play-in-Some.new.sink in
    played_giving (λ played tree lines. Plays (g.B.Playback.plays c.args.playback.now tree 1048576) played.is_refused played.core.history lines old new) c.play-in-Some.result (pending c.args.world.now) (pending c.read_world.new.reader) c.args.schedule.now (Some c.in-Some.reader) c.in-Ok.tree c.in-Some.is c.in-Ok.ensures.value c.play-in-Some.ensures.output

pub returns-in-Some-clause-front : goal.returns-in-Some-clause-front
returns-in-Some-clause-front g c =
    let old = g.O.Sink.taken c.args.out.now in
    let new = g.O.Sink.taken c.play-in-Some.new.sink in
    stopped _ (λ tree lines. Stops (g.B.Playback.tells c.args.playback.now tree 1048576) lines old new) c.play-in-Some.result (pending c.args.world.now) (pending c.read_world.new.reader) c.args.schedule.now (Some c.in-Some.reader) c.in-Ok.tree c.in-Some.is c.in-Ok.ensures.value c.play-in-Some.ensures.front
