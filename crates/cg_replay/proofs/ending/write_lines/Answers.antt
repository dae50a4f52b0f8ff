use Rattle.std.proofs.Common.{◌++◌, ◌∙◌}
use Rattle.std.proofs.lemmas.Result.{on_err_weaker, on_ok_weaker}
use Rattle.cg_replay.proofs.Answered.{on_any_err}
use Rattle.cg_replay.proofs.Gathered.{gathered_front, gathered_on, gathered_whole}
use Rattle.cg_replay.proofs.ending.write_lines.Goals as goal

pub lines-preserved : goal.lines-preserved
lines-preserved g c = record {
  failed = c.in_ok-gather_next.ensures.counted ∙ c.lines.invariant.failed;
  gathered =
      gathered_on (g.K.Sink.taken c.args.sink.now) (g.K.Sink.taken c.lines.sink) (g.K.Sink.taken c.gather_next.new.sink) (c.args.out.now.items ++ c.args.lines.now) c.lines.out.items c.lines.lines c.gather_next.new.out.items
      c.gather_next.new.lines c.lines.invariant.gathered c.in_ok-gather_next.ensures.gathered;
}

pub returns-in_err-gather_next-clause-front : goal.returns-in_err-gather_next-clause-front
returns-in_err-gather_next-clause-front g c =
    on_any_err c.from_residual.result
    (gathered_front (g.K.Sink.taken c.args.sink.now) (g.K.Sink.taken c.lines.sink) (g.K.Sink.taken c.gather_next.new.sink) (c.args.out.now.items ++ c.args.lines.now) c.lines.out.items c.lines.lines c.lines.invariant.gathered
    c.in_err-gather_next.ensures.front)

pub returns-clause-whole : goal.returns-clause-whole
returns-clause-whole g c =
    let last = gathered_on (g.K.Sink.taken c.args.sink.now) (g.K.Sink.taken c.lines.sink) (g.K.Sink.taken c.gather_next.new.sink) (c.args.out.now.items ++ c.args.lines.now) c.lines.out.items c.lines.lines
    c.gather_next.new.out.items c.gather_next.new.lines c.lines.invariant.gathered c.in_ok-gather_next.ensures.gathered in
    on_ok_weaker c.send.result
    (λ sent. gathered_whole (g.K.Sink.taken c.args.sink.now) (g.K.Sink.taken c.gather_next.new.sink) (g.K.Sink.taken c.send.new.sink) (c.args.out.now.items ++ c.args.lines.now) c.gather_next.new.out.items c.gather_next.new.lines last
    (c.in_ok-gather_next.ensures.none c.if-branch.false) sent)
    c.send.ensures.sent

pub returns-clause-front : goal.returns-clause-front
returns-clause-front g c =
    let last = gathered_on (g.K.Sink.taken c.args.sink.now) (g.K.Sink.taken c.lines.sink) (g.K.Sink.taken c.gather_next.new.sink) (c.args.out.now.items ++ c.args.lines.now) c.lines.out.items c.lines.lines
    c.gather_next.new.out.items c.gather_next.new.lines c.lines.invariant.gathered c.in_ok-gather_next.ensures.gathered in
    on_err_weaker c.send.result
    (gathered_front (g.K.Sink.taken c.args.sink.now) (g.K.Sink.taken c.gather_next.new.sink) (g.K.Sink.taken c.send.new.sink) (c.args.out.now.items ++ c.args.lines.now) c.gather_next.new.out.items c.gather_next.new.lines last)
    c.send.ensures.front
