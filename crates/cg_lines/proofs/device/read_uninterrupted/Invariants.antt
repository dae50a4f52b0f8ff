use Rattle.std.proofs.Common.{◌≡◌, length}
use Rattle.std.specs.Io.KnownBytes.{Keeps}
use Rattle.cg_lines.proofs.device.read_uninterrupted.Given as goal

abbrev pub invariant-loop : goal.invariant-loop
invariant-loop g l = record {
  buffer : length l.buf ≡ length l.fn.buf;
  bytes : Keeps (g.R.Read.remaining l.fn.reader) (g.R.Read.remaining l.reader);
}
