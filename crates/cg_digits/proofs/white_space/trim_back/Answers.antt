use Rattle.std.proofs.Common.{◌-◌, length, take, ap, sym, ◌∙◌, arith}
use Rattle.cg_digits.specs.WhiteSpace.{without_trailing_white_space}
use Rattle.cg_digits.proofs.Trimmed.{back_step}
use Rattle.cg_digits.proofs.white_space.trim_back.Goals as goal

pub loop-rest-preserved : goal.loop-rest-preserved
loop-rest-preserved c = record {
  utf8 = c.range-rest.utf8;
  trimmed = ap without_trailing_white_space (c.range-rest.ensures.value ∙ ap (λ n. take n c.loop-rest.rest.now) {x = length c.loop-rest.rest.now - 1 - 0} {y = length c.loop-rest.rest.now - 1} (omega arith)) ∙ back_step c.loop-rest.rest.now (sym c.ends_white.ensures ∙ c.loop-rest-test.true) ∙ c.loop-rest.invariant.trimmed;
}
