use Rattle.std.proofs.Common.{◌≡◌, true, sym, ◌∙◌}
use Rattle.std.proofs.lemmas.Str.{IsCharBoundary-after_ascii}
use Rattle.cg_text.specs.Cutting.{starts_blank}
use Rattle.cg_text.proofs.Blanks.{blank_start}
use Rattle.cg_text.proofs.cutting.behind_blanks.Goals as goal

pub range_from-rest-requires : goal.range_from-rest-requires
range_from-rest-requires c = λ _.
    let rest = c.loop-rest.rest.now in
    let blank : starts_blank rest ≡ true = sym c.starts_blank.ensures ∙ c.loop-rest-test.true in
    IsCharBoundary-after_ascii rest 0 c.loop-rest.invariant.utf8 (blank_start rest blank).0 (blank_start rest blank).1
