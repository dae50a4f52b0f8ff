-- The names between the slashes are the path that the word spells.
use Rattle.std.proofs.Common.{◌≡◌, ◌∷◌, sym, ap, ◌∙◌}
use Rattle.cg_name.proofs.SimpleWords.{names_spelled}
use Rattle.cg_name.proofs.path.Path.read_longer.Goals as goal

pub returns-in_ok-from_names-in-Some-eq47-default-clause-value : goal.returns-in_ok-from_names-in-Some-eq47-default-clause-value
returns-in_ok-from_names-in-Some-eq47-default-clause-value c =
    let names = c.in-Some-eq47-default.names.now in
    let word : c.args.text.now ≡ 47 ∷ names = sym c.as_bytes.ensures.value ∙ c.in-Some-eq47-default.ensures.cases.0 ∙ ap (λ b. b ∷ names) c.in-Some-eq47-default.field-0-0-test in
    names_spelled c.args.text.now names c.in_ok-from_names-in-Some-eq47-default.field-0 word (c.is_simple.ensures c.if-is_simple.true) c.in_ok-from_names-in-Some-eq47-default.ensures
