-- Packed paths are ordered as paths are.
use Rattle.cg_name.proofs.PackedOrder.{text_order}
use Rattle.cg_name.proofs.path.PathOrd.cmp.Goals as goal

pub returns : goal.returns
returns c = rw (c.cmp.ensures, c.as_str.ensures.value, c.as_str-2.ensures.value) (text_order c.args.self.now c.args.other.now c.as_str.ensures.valid c.as_str-2.ensures.valid)
