use Rattle.std.proofs.Common.{◌≡◌, true, sym, ◌∙◌}
use Rattle.std.proofs.lemmas.Str.{IsCharBoundary-after_ascii}
use Rattle.cg_digits.specs.WhiteSpace.{starts_white}
use Rattle.cg_digits.proofs.Trimmed.{white_is_ascii, first_is_white, nonempty}
use Rattle.cg_digits.proofs.white_space.trim_front.Goals as goal

pub range_from-rest-requires : goal.range_from-rest-requires
range_from-rest-requires c = λ _.
    let rest = c.loop-rest.rest.now in
    let white : starts_white rest ≡ true = sym c.starts_white.ensures ∙ c.loop-rest-test.true in
    IsCharBoundary-after_ascii rest 0 c.loop-rest.invariant.utf8 (nonempty rest white) (white_is_ascii _ (first_is_white rest white))
