use Rattle.std.proofs.Common.{◌≡◌, length}
use Rattle.std.specs.Str.{IsUtf8}
use Rattle.cg_digits.specs.WhiteSpace.{without_trailing_white_space}
use Rattle.cg_digits.proofs.white_space.trim_back.Given as goal

abbrev pub invariant-loop-rest : goal.invariant-loop-rest
invariant-loop-rest l = record {
  utf8 : IsUtf8 l.rest;
  trimmed : without_trailing_white_space l.rest ≡ without_trailing_white_space l.text;
}

abbrev pub decreases-loop-rest : goal.decreases-loop-rest
decreases-loop-rest l = length l.rest
