use Rattle.std.proofs.Common.{[], ◌∷◌, ◌++◌, refl, sym, ap, ◌∙◌, append_assoc}
use Rattle.std.specs.List.{flat_map}
use Rattle.std.proofs.Output.{has_written_append}
use Rattle.cg_name.proofs.shown.BareDisplay.fmt.Goals as goal

pub loop-name-init : goal.loop-name-init
loop-name-init g c = λ plain.
    ([], record { wrote = record { parts = []; calls = refl; whole = refl }; plain = plain }, ap (λ names. flat_map (λ n. 47 ∷ n) names) (c.into_iter-name-iterator.ensures.into_iter_gives ∙ c.names-name-items.ensures.value))

pub loop-name-preserved : goal.loop-name-preserved
unfolding lib.Utf8.encode
loop-name-preserved g c = λ plain.
    let before = c.loop-name.invariant plain in
    let slash = has_written_append _ _ before.0 _ (47 ∷ []) _ before.1 (c.in_ok-write_char.ensures.writes before.1.plain refl) in
    let name = has_written_append _ _ (before.0 ++ 47 ∷ []) _ c.in-Some.name.now _ slash (c.in_ok-write_str.ensures.writes slash.plain refl) in
    let rest = flat_map (λ n. 47 ∷ n) c.next.new.self in (
      (before.0 ++ 47 ∷ []) ++ c.in-Some.name.now,
      name,
      append_assoc (before.0 ++ 47 ∷ []) c.in-Some.name.now rest
          ∙ append_assoc before.0 (47 ∷ []) (c.in-Some.name.now ++ rest)
          ∙ ap (λ names. before.0 ++ flat_map (λ n. 47 ∷ n) names) (sym c.in-Some.ensures.steps)
          ∙ before.2,
    )
