use Rattle.std.proofs.Common.{◌++◌, subst, OnErr}
use Rattle.cg_lines.specs.Device.{AppendsFront}
use Rattle.cg_world_text.specs.World.{world_text}
use Rattle.cg_replay.proofs.Answered.{AppendsFront-longer}
use Rattle.cg_replay.proofs.ending.write_tree.Goals as goal

pub returns-in-Err-clause-front : goal.returns-in-Err-clause-front
returns-in-Err-clause-front g c =
    AppendsFront-longer (g.K.Sink.taken c.args.sink.now) (g.K.Sink.taken c.send_last.new.sink) c.args.out.now.items (world_text c.args.tree.now.tree) c.send_last.ensures.front

pub returns-in-Ok-clause-front : goal.returns-in-Ok-clause-front
returns-in-Ok-clause-front g c =
    subst (λ text. OnErr c.write_lines.result (AppendsFront (g.K.Sink.taken c.args.sink.now) (g.K.Sink.taken c.write_lines.new.sink) (c.args.out.now.items ++ text))) c.in-Ok.ensures c.write_lines.ensures.front
