use Rattle.std.proofs.Common.{sym, ap, ◌∙◌}
use Rattle.cg_name.specs.Packed.{packed_text}
use Rattle.cg_name.proofs.Packing.{packed_text-names_in}
use Rattle.cg_name.proofs.path.Path.as_bytes.Goals as goal

pub returns-clause-value : goal.returns-clause-value
returns-clause-value c = c.as_slice.ensures ∙ sym (packed_text-names_in c.self.inside.text c.self.invariant.start) ∙ ap packed_text c.self.view_is
