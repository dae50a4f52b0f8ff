use Rattle.std.proofs.Common.{◌++◌, refl, sym, ap, ◌∙◌, append_assoc}
use Rattle.std.specs.Char.{encode_utf8}
use Rattle.std.specs.List.{flat_map}
use Rattle.std.specs.Str.Iter.{chars_rest}
use Rattle.std.proofs.Output.{has_written_append}
use Rattle.std.proofs.lemmas.Grind.{flat_map-append}
use Rattle.cg_name.specs.Word.{quoted_byte}
use Rattle.cg_name.proofs.shown.EscapedDisplay.fmt.Goals as goal

pub loop-character-preserved : goal.loop-character-preserved
loop-character-preserved g c = λ plain.
    let before = c.loop-character.invariant plain in
    let character = encode_utf8 c.in-Some.character in
    let rest = chars_rest c.next.new.self in
    let all = flat_map-append quoted_byte character rest in (
      before.0 ++ flat_map quoted_byte character,
      has_written_append _ _ before.0 _ (flat_map quoted_byte character) _ before.1 (c.in_ok-write.ensures.writes before.1.plain refl),
      append_assoc before.0 (flat_map quoted_byte character) (flat_map quoted_byte rest)
          ∙ ap (λ text. before.0 ++ text) (sym all ∙ ap (flat_map quoted_byte) (sym c.in-Some.ensures.steps.0))
          ∙ before.2,
    )
