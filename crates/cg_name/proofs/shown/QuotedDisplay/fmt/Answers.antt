use Rattle.std.proofs.Common.{[], ◌∷◌, ◌++◌, refl, sym, ap, ◌∙◌, append_assoc}
use Rattle.std.specs.List.{flat_map}
use Rattle.std.proofs.Output.{has_written_append}
use Rattle.std.proofs.lemmas.Grind.{flat_map-append}
use Rattle.cg_name.specs.Word.{quoted_byte}
use Rattle.cg_name.proofs.shown.QuotedDisplay.fmt.Goals as goal

pub loop-name-init : goal.loop-name-init
loop-name-init g c = λ plain.
    ([], record { wrote = record { parts = []; calls = refl; whole = refl }; plain = plain }, ap (λ names. flat_map quoted_byte (flat_map (λ n. 47 ∷ n) names)) (c.into_iter-name-iterator.ensures.into_iter_gives ∙ c.names-name-items.ensures.value))

pub loop-name-preserved : goal.loop-name-preserved
unfolding lib.Utf8.encode
loop-name-preserved g c = λ plain.
    let before = c.loop-name.invariant plain in
    let slash = has_written_append _ _ before.0 _ (47 ∷ []) _ before.1 (c.in_ok-write_char.ensures.writes before.1.plain refl) in
    let escaped = flat_map quoted_byte c.in-Some.name.now in
    let name = has_written_append _ _ (before.0 ++ 47 ∷ []) _ escaped _ slash (c.in_ok-write.ensures.writes slash.plain refl) in
    let rest = flat_map (λ n. 47 ∷ n) c.next.new.self in (
      (before.0 ++ 47 ∷ []) ++ escaped,
      name,
      append_assoc (before.0 ++ 47 ∷ []) escaped (flat_map quoted_byte rest)
          ∙ append_assoc before.0 (47 ∷ []) (escaped ++ flat_map quoted_byte rest)
          ∙ ap (λ text. before.0 ++ 47 ∷ text) (sym (flat_map-append quoted_byte c.in-Some.name.now rest))
          ∙ ap (λ names. before.0 ++ flat_map quoted_byte (flat_map (λ n. 47 ∷ n) names)) (sym c.in-Some.ensures.steps)
          ∙ before.2,
    )
