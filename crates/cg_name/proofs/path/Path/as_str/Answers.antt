use Rattle.std.proofs.Common.{sym, ap, subst, ◌∙◌}
use Rattle.std.specs.Str.{IsUtf8}
use Rattle.cg_name.specs.Packed.{packed_text}
use Rattle.cg_name.proofs.Packing.{packed_text-names_in}
use Rattle.cg_name.proofs.Utf8.{utf8_packed}
use Rattle.cg_name.proofs.path.Path.as_str.Goals as goal

pub from_utf8_unchecked-requires : goal.from_utf8_unchecked-requires
from_utf8_unchecked-requires c = subst IsUtf8 (sym c.as_slice.ensures) (utf8_packed c.self.inside.text c.self.invariant)

pub returns-clause-value : goal.returns-clause-value
returns-clause-value c =
    c.from_utf8_unchecked.ensures
    ∙ c.as_slice.ensures
    ∙ sym (packed_text-names_in c.self.inside.text c.self.invariant.start)
    ∙ ap packed_text c.self.view_is
