use Rattle.std.proofs.Common.{◌∙◌}
use Rattle.std.proofs.lemmas.Result.{err_from_is_err_and}
use Rattle.std.proofs.lemmas.List.{take_rest}
use Rattle.cg_lines.proofs.DeviceLemmas.{AppendsTo-more, AppendsTo-front}
use Rattle.cg_lines.proofs.device.write_all.Goals as goal

pub returns-in_err-n-clause-bytes : goal.returns-in_err-n-clause-bytes
returns-in_err-n-clause-bytes g c =
    let p = err_from_is_err_and c.from_residual.result c.from_residual.ensures.1 in
    rw p.1 (AppendsTo-front (g.K.Sink.taken c.args.sink.now) (g.K.Sink.taken c.loop-rest.sink) (g.K.Sink.taken c.write.new.self) c.args.bytes.now c.loop-rest.rest.now c.loop-rest.invariant.written c.in_err-n.ensures.bytes)

pub loop-rest-preserved : goal.loop-rest-preserved
loop-rest-preserved g c = record {
  written =
      rw take_rest
      (AppendsTo-more (g.K.Sink.taken c.args.sink.now) (g.K.Sink.taken c.loop-rest.sink) (g.K.Sink.taken c.write.new.self) c.args.bytes.now c.loop-rest.rest.now c.in_ok-n.n c.loop-rest.invariant.written c.in_ok-n.ensures.bytes);
  counted = c.in_ok-n.ensures.counted_ok ∙ c.loop-rest.invariant.counted;
}
