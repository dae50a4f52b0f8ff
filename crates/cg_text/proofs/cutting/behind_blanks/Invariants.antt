use Rattle.std.proofs.Common.{◌≡◌, length}
use Rattle.std.specs.Str.{IsUtf8}
use Rattle.cg_name.specs.Word.{is_blank}
use Rattle.cg_text.specs.Cutting.{behind}
use Rattle.cg_text.proofs.cutting.behind_blanks.Given as goal

abbrev pub invariant-loop-rest : goal.invariant-loop-rest
invariant-loop-rest l = record {
  utf8 : IsUtf8 l.rest;
  same : behind is_blank l.rest ≡ behind is_blank l.text;
}

abbrev pub decreases-loop-rest : goal.decreases-loop-rest
decreases-loop-rest l = length l.rest
