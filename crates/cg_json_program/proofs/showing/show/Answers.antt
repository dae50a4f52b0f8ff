use Rattle.std.proofs.Common.{subst}
use Rattle.cg_lines.specs.Device.{AppendsFront}
use Rattle.cg_json_program.proofs.showing.show.Goals as goal

pub returns-clause-front : goal.returns-clause-front
returns-clause-front g c = λ _.
    let old = g.O.Sink.taken c.args.out.now in
    let new = g.O.Sink.taken c.write_all.new.sink in
    (c.in_ok-line.line.items, c.in_ok-line.ensures.value, subst (AppendsFront old new) c.as_slice.ensures.value c.in-Err.ensures.bytes)
