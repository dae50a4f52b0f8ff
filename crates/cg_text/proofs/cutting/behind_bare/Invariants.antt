use Rattle.std.proofs.Common.{◌≡◌}
use Rattle.cg_name.specs.Word.{is_bare_byte}
use Rattle.cg_text.specs.Cutting.{behind}
use Rattle.cg_text.proofs.cutting.behind_bare.Given as goal

abbrev pub invariant-bytes : goal.invariant-bytes
invariant-bytes l = behind is_bare_byte l.rest ≡ behind is_bare_byte l.text
