use Rattle.std.proofs.lemmas.Result.{on_err_weaker}
use Rattle.cg_lines.specs.Lines.{pending}
use Rattle.cg_replay.proofs.Answered.{on_any_err}
use Rattle.cg_replay.proofs.Playing.{both_ok, front_answers, front_end, whole_end}
use Rattle.cg_replay.proofs.schedule.play.Goals as goal

pub returns-in_err-waiting-clause-front : goal.returns-in_err-waiting-clause-front
returns-in_err-waiting-clause-front g c =
    on_any_err c.from_residual.result
    (front_answers c.args.player.now (pending c.args.reader.now) (g.K.Sink.taken c.args.sink.now) (g.K.Sink.taken c.answer_lines.new.sink) c.in_err-waiting.ensures.front)

pub returns-clause-front : goal.returns-clause-front
returns-clause-front g c =
    on_err_weaker c.write_end.result
    (front_end c.args.player.now c.answer_lines.new.answerer (pending c.args.reader.now) (g.K.Sink.taken c.args.sink.now) (g.K.Sink.taken c.answer_lines.new.sink) (g.K.Sink.taken c.write_end.new.sink) c.in_ok-waiting.waiting.items c.in_ok-waiting.ensures.answered)
    c.write_end.ensures.front

pub returns-clause-output : goal.returns-clause-output
returns-clause-output g c =
    both_ok c.write_end.result
    (whole_end c.args.player.now c.answer_lines.new.answerer (pending c.args.reader.now) (g.K.Sink.taken c.args.sink.now) (g.K.Sink.taken c.answer_lines.new.sink) (g.K.Sink.taken c.write_end.new.sink) c.in_ok-waiting.waiting.items c.write_end.new.self.core c.in_ok-waiting.ensures.answered)
    c.write_end.ensures.whole c.write_end.ensures.core
