-- Packed paths are equal where the paths are.
use Rattle.cg_name.proofs.PackedOrder.{text_ties}
use Rattle.cg_name.proofs.path.PathPartialEq.eq.Goals as goal

pub returns : goal.returns
returns c = rw (c.eq.ensures, c.as_str.ensures.value, c.as_str-2.ensures.value) (text_ties c.args.self.now c.args.other.now c.as_str.ensures.valid c.as_str-2.ensures.valid)
