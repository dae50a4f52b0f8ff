use Rattle.std.proofs.Common.{arith}
use Rattle.cg_name.specs.Packed.{slashed}
use Rattle.cg_name.proofs.Slashes.{one_written}
use Rattle.cg_name.proofs.packed.put_slashes.Goals as goal

pub loop-i-preserved : goal.loop-i-preserved
loop-i-preserved c = one_written slashed c.args.bytes.now c.loop-i.bytes c.loop-i.i c.slashed.result (omega (arith, c.loop-i.auto.bytes)) c.loop-i-test.true c.slashed.ensures c.loop-i.invariant.0 c.loop-i.invariant.1
