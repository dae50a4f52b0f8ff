use Rattle.cg_text.specs.Reading.{SpellsOps}
use Rattle.cg_text.proofs.Readers.{reads}
use Rattle.cg_text.proofs.control_ops.ControlOpsFromStr.from_str.Goals as goal

pub returns : goal.returns
returns c = reads SpellsOps c.args.text.now c.read_ops.result c.read_ops.ensures.value c.read_ops.ensures.syntax c.read_ops.ensures.refusals
