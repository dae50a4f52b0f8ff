use Rattle.std.proofs.Common.{◌≡◌, length}
use Rattle.cg_lines.specs.Device.{AppendsTo}
use Rattle.cg_lines.proofs.device.write_all.Given as goal

abbrev pub invariant-loop-rest : goal.invariant-loop-rest
invariant-loop-rest g l = record {
  written : AppendsTo (g.K.Sink.taken l.fn.sink) (g.K.Sink.taken l.sink) l.bytes l.rest;
  counted : g.K.Sink.failed l.sink ≡ g.K.Sink.failed l.fn.sink;
}

abbrev pub decreases-loop-rest : goal.decreases-loop-rest
decreases-loop-rest g l = length l.rest
