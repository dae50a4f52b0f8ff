use Rattle.std.proofs.Common.{◌≡◌, ◌∙◌, sym, ap, subst, ◌↔◌, IsTrue, option_map}
use Rattle.std.specs.String.{string_bytes}
use Rattle.cg_import.proofs.Controllers.{equal_sets}
use Rattle.cg_import.proofs.Said.{passes_on, passes_all}
use Rattle.cg_text.specs.Controllers.{has}
use Rattle.cg_import.specs.Values.{NamesController, SpellsNamed}
use Rattle.cg_import.proofs.tree.Import.control_at.Goals as goal
use Rattle.cg_import.proofs.tree.Import.control_at.Goals.{then-not-are_known+in_ok-add, else-not-are_known+else-ne}

pub returns-clause-read : goal.returns-clause-read
returns-clause-read g c =
    passes_on _ _ _ _ (string_bytes c.in-Some.text) c.in_ok-text.ensures (ap (option_map string_bytes) c.in-Some.is) c.common-passed.result c.controllers_in-are_known.result.0 c.args.above
    (λ d. subst (λ t. IsTrue (has c.controllers_in-are_known.result.0 d) ↔ NamesController t d) c.as_str.ensures.value (c.controllers_in-are_known.ensures d))
    c.common-passed.ensures

pub returns-clause-whole : goal.returns-clause-whole
returns-clause-whole g c =
    let names : SpellsNamed (string_bytes c.in-Some.text) c.controllers_in-are_known.result.0 = λ d. subst (λ t. IsTrue (has c.controllers_in-are_known.result.0 d) ↔ NamesController t d) c.as_str.ensures.value (c.controllers_in-are_known.ensures d) in
    elim c.if-not-are_known.branch [
      | then-not-are_known+in_ok-add w ↦ λ none. absurd (w.in_ok-add.ensures (ap (λ s. s.left_out.lines.items) (sym w.self-is) ∙ none))
      | else-not-are_known+else-ne w ↦
          λ _.
          let same : c.common-passed.result ≡ c.controllers_in-are_known.result.0 = equal_sets c.common-passed.result c.controllers_in-are_known.result.0 (sym w.ne.ensures ∙ w.if-ne.false) in
          passes_all _ _ _ _ (string_bytes c.in-Some.text) c.in_ok-text.ensures (ap (option_map string_bytes) c.in-Some.is) c.common-passed.result c.controllers_in-are_known.result.0 names same
    ]
