use Rattle.std.proofs.Common.{rules, ◌≡◌, inl, refl, subst}
use Rattle.cg_lines.specs.Device.{AppendsFront}
use Rattle.cg_batch.specs.Batch.{batch_text}
use Rattle.cg_batch.proofs.Stopping.{at_error, nothing_told}
use Rattle.cg_batch.proofs.running.tell.Goals as goal

pub returns-in_err-text-clause-front : goal.returns-in_err-text-clause-front
returns-in_err-text-clause-front g c =
    at_error c.from_residual.result (nothing_told (g.O.Sink.taken c.args.out.now) g.H.Sink.taken c.args.history.now _ _)

pub returns-in_err-write_all-clause-front : goal.returns-in_err-write_all-clause-front
returns-in_err-write_all-clause-front g c =
    let report = c.args.report.now in
    let text : c.as_slice.result.now ≡ batch_text c.args.form report.ends.items report.core.opening report.core.history = search rules in
    at_error c.from_residual-in_err-write_all.result (inl (subst (λ bytes. AppendsFront (g.O.Sink.taken c.args.out.now) (g.O.Sink.taken c.write_all.new.sink) bytes) text c.in_err-write_all.ensures.bytes, refl))
