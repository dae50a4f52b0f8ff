-- The names are plain where all bytes of the path's text are, but for the zero bytes.
use Rattle.std.proofs.Common.{ap, ◌∙◌}
use Rattle.std.specs.List.{list_all}
use Rattle.cg_name.specs.Packed.{is_plain_or_zero}
use Rattle.cg_name.proofs.Slashes.{plain_names}
use Rattle.cg_name.proofs.path_ref.has_plain_names.Goals as goal

pub returns : goal.returns
returns c = c.are_plain.ensures ∙ ap (list_all is_plain_or_zero) c.as_bytes.ensures.value ∙ plain_names c.args.path.now c.as_bytes.ensures.valid.names
