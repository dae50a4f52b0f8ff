use Rattle.std.proofs.Common.{take, sym, ap, subst, ◌∙◌}
use Rattle.cg_name.specs.Packed.{names_in, IsPacked}
use Rattle.cg_path_tree.specs.Nodes.{parent_path}
use Rattle.cg_name.proofs.Utf8.{utf8_packed}
use Rattle.cg_path_tree.proofs.LastName.{packed_before}
use Rattle.cg_path_tree.proofs.Texts.{tells, packed}
use Rattle.cg_path_tree.proofs.path_text.parent_text.Goals as goal

pub last_name_start-start-requires : goal.last_name_start-start-requires
last_name_start-start-requires c = packed c.as_bytes-bytes.result.now c.args.path.now c.as_bytes-bytes.ensures.valid c.as_bytes-bytes.ensures.value

pub from_utf8_unchecked-requires : goal.from_utf8_unchecked-requires
from_utf8_unchecked-requires c =
    let bytes = c.as_bytes-bytes.result.now in
    utf8_packed (take c.last_name_start-start.result bytes) (packed_before bytes c.last_name_start-start.result (packed bytes c.args.path.now c.as_bytes-bytes.ensures.valid c.as_bytes-bytes.ensures.value) c.last_name_start-start.ensures.value)

pub returns-clause-value : goal.returns-clause-value
returns-clause-value c =
    ap names_in c.from_utf8_unchecked.ensures
    ∙ c.last_name_start-start.ensures.value
    ∙ ap parent_path (tells c.as_bytes-bytes.result.now c.args.path.now c.as_bytes-bytes.ensures.valid c.as_bytes-bytes.ensures.value)

pub returns-clause-packed : goal.returns-clause-packed
returns-clause-packed c =
    let bytes = c.as_bytes-bytes.result.now in
    subst IsPacked (sym c.from_utf8_unchecked.ensures)
    (packed_before bytes c.last_name_start-start.result (packed bytes c.args.path.now c.as_bytes-bytes.ensures.valid c.as_bytes-bytes.ensures.value) c.last_name_start-start.ensures.value)
