use Rattle.std.proofs.Common.{take, sym, subst, ◌∙◌}
use Rattle.std.specs.Str.{IsUtf8}
use Rattle.cg_name.proofs.Packing.{path-take}
use Rattle.cg_name.proofs.Utf8.{utf8_text}
use Rattle.cg_path_tree.proofs.Texts.{tells, packed}
use Rattle.cg_path_tree.proofs.path_text.prefix_text.Goals as goal

pub from_utf8_unchecked-requires : goal.from_utf8_unchecked-requires
from_utf8_unchecked-requires c =
    subst IsUtf8 (sym c.prefix_bytes.ensures.value) (utf8_text (take c.args.depth c.args.path.now) (path-take c.args.path.now c.args.depth c.prefix_bytes.ensures.valid))

pub returns-clause-value : goal.returns-clause-value
returns-clause-value c =
    tells c.from_utf8_unchecked.result.now (take c.args.depth c.args.path.now) (path-take c.args.path.now c.args.depth c.prefix_bytes.ensures.valid)
    (c.from_utf8_unchecked.ensures ∙ c.prefix_bytes.ensures.value)

pub returns-clause-packed : goal.returns-clause-packed
returns-clause-packed c =
    packed c.from_utf8_unchecked.result.now (take c.args.depth c.args.path.now) (path-take c.args.path.now c.args.depth c.prefix_bytes.ensures.valid)
    (c.from_utf8_unchecked.ensures ∙ c.prefix_bytes.ensures.value)
