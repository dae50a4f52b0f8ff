use Rattle.std.proofs.Common.{subst}
use Rattle.cg_lines.specs.Device.{AppendsFront}
use Rattle.cg_lines.specs.Lines.{pending}
use Rattle.cg_lines.proofs.DeviceLemmas.{AppendsFront-whole, AppendsTo-front}
use Rattle.cg_replay.proofs.Answered.{on_any_err, gathers_first}
use Rattle.cg_replay.proofs.answering.answer_next.Goals as goal

pub returns-in_err-send-in-Err-clause-front : goal.returns-in_err-send-in-Err-clause-front
returns-in_err-send-in-Err-clause-front g c =
    let front = subst (λ l. AppendsFront (g.K.Sink.taken c.send_early.new.sink) (g.K.Sink.taken c.send.new.sink) l) c.in-Err.ensures.unchanged c.in_err-send-in-Err.ensures.front in
    on_any_err c.from_residual-in_err-send-in-Err.result
    (AppendsTo-front (g.K.Sink.taken c.args.sink.now) (g.K.Sink.taken c.send_early.new.sink) (g.K.Sink.taken c.send.new.sink) c.args.out.now.items c.send_early.new.out.items c.in_ok-send_early.ensures.sent front)

pub returns-in-Ok-clause-answered : goal.returns-in-Ok-clause-answered
returns-in-Ok-clause-answered g c = λ more.
    gathers_first g.A.Answerer.answers c.args.answerer.now c.answer_read.new.answerer (pending c.args.reader.now) (pending c.answer_read.new.reader) (g.K.Sink.taken c.args.sink.now) (g.K.Sink.taken c.send_early.new.sink)
    c.args.out.now.items c.send_early.new.out.items c.answer_read.new.out.items c.in_ok-send_early.ensures.sent (c.in-Ok.ensures.answered more)

pub returns-in_ok-send-in-Err-clause-front : goal.returns-in_ok-send-in-Err-clause-front
returns-in_ok-send-in-Err-clause-front g c =
    let whole = AppendsFront-whole (g.K.Sink.taken c.send_early.new.sink) (g.K.Sink.taken c.send.new.sink) c.answer_read.new.out.items c.in_ok-send-in-Err.ensures.sent in
    let front = subst (λ l. AppendsFront (g.K.Sink.taken c.send_early.new.sink) (g.K.Sink.taken c.send.new.sink) l) c.in-Err.ensures.unchanged whole in
    AppendsTo-front (g.K.Sink.taken c.args.sink.now) (g.K.Sink.taken c.send_early.new.sink) (g.K.Sink.taken c.send.new.sink) c.args.out.now.items c.send_early.new.out.items c.in_ok-send_early.ensures.sent front
