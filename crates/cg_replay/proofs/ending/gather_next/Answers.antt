use Rattle.std.proofs.Common.{subst}
use Rattle.cg_lines.specs.Device.{AppendsFront}
use Rattle.cg_lines.proofs.DeviceLemmas.{AppendsTo-front}
use Rattle.cg_replay.proofs.Gathered.{line_gathered, none_behind}
use Rattle.cg_replay.proofs.ending.gather_next.Goals as goal

pub returns-in-Ok-clause-gathered : goal.returns-in-Ok-clause-gathered
returns-in-Ok-clause-gathered g c =
    line_gathered (g.K.Sink.taken c.args.sink.now) (g.K.Sink.taken c.send_much.new.sink) c.args.out.now.items c.args.lines.now c.send_much.new.out.items c.append_next.new.out.items c.append_next.new.self
    c.in_ok-send_much.ensures.sent c.in-Ok.ensures.line

pub returns-in-Ok-clause-none : goal.returns-in-Ok-clause-none
returns-in-Ok-clause-none g c = λ last.
    none_behind c.send_much.new.out.items c.append_next.new.out.items c.args.lines.now c.append_next.new.self c.in-Ok.ensures.line (c.in-Ok.ensures.none last)

pub returns-in-Err-clause-front : goal.returns-in-Err-clause-front
returns-in-Err-clause-front g c =
    AppendsTo-front (g.K.Sink.taken c.args.sink.now) (g.K.Sink.taken c.send_much.new.sink) (g.K.Sink.taken c.send_last.new.sink) c.args.out.now.items c.send_much.new.out.items c.in_ok-send_much.ensures.sent
    (subst (λ l. AppendsFront (g.K.Sink.taken c.send_much.new.sink) (g.K.Sink.taken c.send_last.new.sink) l) c.in-Err.ensures.err c.send_last.ensures.front)
