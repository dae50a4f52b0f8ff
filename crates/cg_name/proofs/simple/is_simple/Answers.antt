-- The first byte and the last are looked at alone, and each other behind the one before it.
use Rattle.std.proofs.Common.{◌≡◌, ◌-◌, false, length, get_or, ap, sym, ◌∙◌}
use Rattle.std.proofs.lemmas.Bool.{ne_eqb}
use Rattle.cg_name.specs.Simple.{is_simple_byte, is_slash}
use Rattle.cg_name.proofs.SimpleWords.{simple_names}
use Rattle.cg_name.proofs.simple.is_simple.Goals as goal

pub returns-then-goes_on : goal.returns-then-goes_on
returns-then-goes_on c = λ few.
    let text = c.args.text.now in
    let first = c.in-Some-Some.ensures.item.3 in
    let last = c.in-Some-Some.ensures'.item.3 in
    let name : is_slash (get_or text (length text - 1) 0) ≡ false = ne_eqb _ 47 (λ e. c.if-last-eq47.false (last.1 0 ∙ e)) in
    simple_names text c.if-text-gt-LONGEST.false first.0 (ap is_simple_byte (sym (first.1 0)) ∙ sym c.begins_name.ensures ∙ c.if-not-begins_name.false)
    (c.goes_on.ensures c.if-goes_on.true) name (c.has_few_slashes.ensures few)
