use Rattle.std.proofs.Common.{◌+◌, ◌<◌, length, length-take, arith}
use Rattle.cg_lines.proofs.WholeLemmas.{ReadConsumes-longer}
use Rattle.cg_lines.proofs.whole.read_behind.Goals as goal

pub returns-clause-bytes : goal.returns-clause-bytes
returns-clause-bytes g c =
    let some : 0 < length c.read.new.buf = omega (arith, length-take (c.min-n.result + 1) c.args.chunk.now) in
    ReadConsumes-longer (g.S.Source.left c.args.source.now) (g.S.Source.left c.read.new.self) c.read.result c.read.new.buf _ some c.read.ensures.bound c.read.ensures.bytes
