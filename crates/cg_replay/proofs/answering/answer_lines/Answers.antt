use Rattle.std.proofs.Common.{◌∙◌}
use Rattle.std.proofs.lemmas.Result.{err_from_is_err_and}
use Rattle.cg_lines.specs.Lines.{pending}
use Rattle.cg_replay.proofs.Answered.{all_answered, answered_front, answered_passed, on_any_err, one_more_answered}
use Rattle.cg_script.proofs.WorldLemmas.{err_handed_on}
use Rattle.cg_replay.proofs.answering.answer_lines.Goals as goal

pub returns-in_err-answer_next-clause-front : goal.returns-in_err-answer_next-clause-front
returns-in_err-answer_next-clause-front g c =
    on_any_err c.from_residual.result
    (answered_front g.A.Answerer.answers c.args.answerer.now c.lines.answerer (pending c.args.reader.now) (pending c.lines.reader) (g.K.Sink.taken c.args.sink.now) (g.K.Sink.taken c.lines.sink) (g.K.Sink.taken c.answer_next.new.sink)
    c.lines.out.items c.lines.invariant.answered c.in_err-answer_next.ensures.front)

pub returns-in_err-answer_next-clause-passed : goal.returns-in_err-answer_next-clause-passed
returns-in_err-answer_next-clause-passed g c = λ broken.
    let p = err_from_is_err_and c.from_residual.result c.from_residual.ensures.1 in
    let same = err_handed_on c.from_residual.result p.0 c.in_err-answer_next.field-0.0 _ p.1 p.2 broken in
    answered_passed g.A.Answerer.answers c.args.answerer.now c.lines.answerer (pending c.args.reader.now) (pending c.lines.reader) (pending c.answer_next.new.reader) (g.K.Sink.taken c.args.sink.now) (g.K.Sink.taken c.lines.sink)
    (g.K.Sink.taken c.answer_next.new.sink) c.lines.out.items c.lines.invariant.answered (c.in_err-answer_next.ensures.loses same) (c.in_err-answer_next.ensures.sent same)

pub lines-preserved : goal.lines-preserved
lines-preserved g c = record {
  failed = c.in_ok-answer_next.ensures.counted ∙ c.lines.invariant.failed;
  answered =
      one_more_answered g.A.Answerer.answers c.args.answerer.now c.lines.answerer c.answer_next.new.answerer (pending c.args.reader.now) (pending c.lines.reader) (pending c.answer_next.new.reader) (g.K.Sink.taken c.args.sink.now)
      (g.K.Sink.taken c.lines.sink) (g.K.Sink.taken c.answer_next.new.sink) c.lines.out.items c.answer_next.new.out.items c.lines.invariant.answered (c.in_ok-answer_next.ensures.answered c.if-branch.true);
}

pub returns-clause-answered : goal.returns-clause-answered
returns-clause-answered g c =
    all_answered g.A.Answerer.answers c.args.answerer.now c.lines.answerer c.answer_next.new.answerer (pending c.args.reader.now) (pending c.lines.reader) (g.K.Sink.taken c.args.sink.now) (g.K.Sink.taken c.lines.sink)
    (g.K.Sink.taken c.answer_next.new.sink) c.lines.out.items c.answer_next.new.out.items c.lines.invariant.answered (c.in_ok-answer_next.ensures.ended c.if-branch.false)
