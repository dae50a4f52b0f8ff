use Rattle.std.proofs.Common.{subst}
use Rattle.std.specs.Io.KnownBytes.{Appends}
use Rattle.cg_lines.specs.Device.{AppendsFront}
use Rattle.cg_import.proofs.Asked.{written, written_front}
use Rattle.cg_import.proofs.named.write_import.Goals as goal

pub returns-in-Ok-clause-done : goal.returns-in-Ok-clause-done
returns-in-Ok-clause-done g c = λ may.
    written (g.P.Inputs.file c.args.inputs.now) (g.P.Inputs.is_missing c.args.inputs.now) c.args.root.now c.args.online (λ l. l.now) c.in_ok-online.online c.in_ok-imported.imported.text.items c.in_ok-imported.imported.left_out.lines.items c.args.is_strict (g.O.Sink.taken c.args.out.now) (g.O.Sink.taken c.write_all.new.sink) c.in_ok-imported.ensures.world c.in_ok-online.ensures.value c.in_ok-online.ensures.some
    (subst (λ t. Appends (g.O.Sink.taken c.args.out.now) (g.O.Sink.taken c.write_all.new.sink) t) c.as_slice.ensures.value c.in-Ok.ensures.bytes) may

pub returns-in-Err-clause-front : goal.returns-in-Err-clause-front
returns-in-Err-clause-front g c = λ is.
    written_front (g.P.Inputs.file c.args.inputs.now) (g.P.Inputs.is_missing c.args.inputs.now) c.args.root.now c.in_ok-online.online c.in_ok-imported.imported.text.items c.in_ok-imported.imported.left_out.lines.items (g.O.Sink.taken c.args.out.now) (g.O.Sink.taken c.write_all.new.sink) c.in_ok-imported.ensures.world
    (subst (λ t. AppendsFront (g.O.Sink.taken c.args.out.now) (g.O.Sink.taken c.write_all.new.sink) t) c.as_slice.ensures.value c.in-Err.ensures.bytes)
