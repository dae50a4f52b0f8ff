use Rattle.cg_lines.proofs.DeviceLemmas.{AppendsFront-nil, AppendsFront-take}
use Rattle.cg_lines.proofs.device.FromWriteSink.write.Goals as goal

pub returns-in-Ok-eq0-clause-bytes : goal.returns-in-Ok-eq0-clause-bytes
returns-in-Ok-eq0-clause-bytes g c =
    (AppendsFront-take _ _ c.args.bytes.now c.in-Ok-eq0.field-0 c.in-Ok-eq0.ensures.bytes)

pub returns-in-Err-clause-bytes : goal.returns-in-Err-clause-bytes
returns-in-Err-clause-bytes g c =
    (AppendsFront-nil (g.W.Write.contents c.args.self.now.writer) (g.W.Write.contents c.write_uninterrupted.new.writer) c.args.bytes.now c.in-Err.ensures.bytes)
