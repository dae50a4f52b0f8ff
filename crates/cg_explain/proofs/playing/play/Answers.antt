use Rattle.std.proofs.Common.{◌∙◌}
use Rattle.cg_lines.specs.Lines.{pending}
use Rattle.cg_replay.proofs.Answered.{on_any_err}
use Rattle.cg_explain.proofs.Played.{front_answers, front_end, whole_end}
use Rattle.cg_explain.proofs.playing.play.Goals as goal

pub returns-in_err-waiting-clause-front : goal.returns-in_err-waiting-clause-front
returns-in_err-waiting-clause-front g c =
    on_any_err c.from_residual.result
    (front_answers c.args.explainer.now (pending c.args.reader.now) (g.K.Sink.taken c.args.sink.now) (g.K.Sink.taken c.answer_lines.new.sink) c.in_err-waiting.ensures.front)

pub returns-in_err-write_end-clause-front : goal.returns-in_err-write_end-clause-front
returns-in_err-write_end-clause-front g c =
    on_any_err c.from_residual-in_err-write_end.result
    (front_end c.args.explainer.now c.answer_lines.new.answerer (pending c.args.reader.now) (g.K.Sink.taken c.args.sink.now) (g.K.Sink.taken c.answer_lines.new.sink) (g.K.Sink.taken c.write_end.new.sink) c.in_ok-waiting.waiting.items c.in_ok-waiting.ensures.answered
    c.in_err-write_end.ensures.front)

pub returns-clause-output : goal.returns-clause-output
returns-clause-output g c =
    whole_end c.args.explainer.now c.answer_lines.new.answerer (pending c.args.reader.now) (g.K.Sink.taken c.args.sink.now) (g.K.Sink.taken c.answer_lines.new.sink) (g.K.Sink.taken c.write_end.new.sink) c.in_ok-waiting.waiting.items c.is_refused.result c.write_end.new.self.player.core
    c.in_ok-waiting.ensures.answered (c.is_refused.ensures ∙ c.in_ok-write_end.ensures.kept) c.in_ok-write_end.ensures.whole c.in_ok-write_end.ensures.core
