use Rattle.std.proofs.Common.{subst, ◌∙◌}
use Rattle.std.specs.Io.KnownBytes.{Appends}
use Rattle.cg_lines.specs.Device.{AppendsFront}
use Rattle.cg_lines.specs.Lines.{pending}
use Rattle.cg_replay.proofs.Answered.{on_any_err}
use Rattle.cg_json_program.proofs.Played.{front_answers, front_end, front_waiting, whole_end, whole_front}
use Rattle.cg_json_program.proofs.playing.play.Goals as goal

pub returns-in_err-waiting-clause-front : goal.returns-in_err-waiting-clause-front
returns-in_err-waiting-clause-front g c =
    on_any_err c.from_residual.result
    (front_answers c.args.reporter.now (pending c.args.reader.now) (g.K.Sink.taken c.args.sink.now) (g.K.Sink.taken c.answer_lines.new.sink) c.in_err-waiting.ensures.front)

pub returns-in_err-write_all-clause-front : goal.returns-in_err-write_all-clause-front
returns-in_err-write_all-clause-front g c =
    let a = g.K.Sink.taken c.args.sink.now in
    let b = g.K.Sink.taken c.answer_lines.new.sink in
    let d = g.K.Sink.taken c.write_all.new.sink in
    on_any_err c.from_residual-in_err-write_all.result
    (front_waiting c.args.reporter.now c.answer_lines.new.answerer (pending c.args.reader.now) a b d c.in_ok-waiting.waiting.items c.in_ok-waiting.ensures.answered (subst (AppendsFront b d) c.as_slice.ensures.value c.in_err-write_all.ensures.bytes))

pub returns-in_err-ending-clause-front : goal.returns-in_err-ending-clause-front
returns-in_err-ending-clause-front g c =
    let a = g.K.Sink.taken c.args.sink.now in
    let b = g.K.Sink.taken c.answer_lines.new.sink in
    let d = g.K.Sink.taken c.write_all.new.sink in
    on_any_err c.from_residual-in_err-ending.result
    (front_waiting c.args.reporter.now c.answer_lines.new.answerer (pending c.args.reader.now) a b d c.in_ok-waiting.waiting.items c.in_ok-waiting.ensures.answered
    (whole_front b d c.in_ok-waiting.waiting.items (subst (Appends b d) c.as_slice.ensures.value c.in_ok-write_all.ensures.bytes)))

pub returns-in_err-write_all-2-clause-front : goal.returns-in_err-write_all-2-clause-front
returns-in_err-write_all-2-clause-front g c =
    let a = g.K.Sink.taken c.args.sink.now in
    let b = g.K.Sink.taken c.answer_lines.new.sink in
    let d = g.K.Sink.taken c.write_all.new.sink in
    let e = g.K.Sink.taken c.write_all-2.new.sink in
    on_any_err c.from_residual-in_err-write_all-2.result
    (front_end c.args.reporter.now c.answer_lines.new.answerer (pending c.args.reader.now) a b d e c.in_ok-waiting.waiting.items c.in_ok-ending.ending.items _ c.in_ok-waiting.ensures.answered (subst (Appends b d) c.as_slice.ensures.value c.in_ok-write_all.ensures.bytes)
    c.in_ok-ending.ensures.ending.0 (subst (AppendsFront d e) c.as_slice-2.ensures.value c.in_err-write_all-2.ensures.bytes))

pub returns-clause-output : goal.returns-clause-output
returns-clause-output g c =
    let a = g.K.Sink.taken c.args.sink.now in
    let b = g.K.Sink.taken c.answer_lines.new.sink in
    let d = g.K.Sink.taken c.write_all.new.sink in
    let e = g.K.Sink.taken c.write_all-2.new.sink in
    whole_end c.args.reporter.now c.answer_lines.new.answerer (pending c.args.reader.now) a b d e c.in_ok-waiting.waiting.items c.in_ok-ending.ending.items c.is_refused.result c.end.new.self.player c.in_ok-waiting.ensures.answered
    (subst (Appends b d) c.as_slice.ensures.value c.in_ok-write_all.ensures.bytes) c.in_ok-ending.ensures.ending (subst (Appends d e) c.as_slice-2.ensures.value c.in_ok-write_all-2.ensures.bytes) (c.is_refused.ensures ∙ c.in_ok-ending.ensures.kept)
