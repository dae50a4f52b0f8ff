-- The words are the parts between white space.
use Rattle.std.proofs.Common.{◌↔◌, refl, IsTrue, [], ◌∷◌, Contains, subst, ◌∙◌, rules}
use Rattle.std.proofs.lemmas.List.{map-append}
use Rattle.std.proofs.lemmas.Iterator.Splits.{YieldsList-from_slice_split}
use Rattle.std.proofs.lemmas.Iterator.Consumers.{YieldsList-at}
use Rattle.cg_digits.specs.WhiteSpace.{is_white_space}
use Rattle.cg_name.specs.Controller.{controller_word}
use Rattle.cg_text.specs.Controllers.{has}
use Rattle.cg_text.proofs.Operations.{end_on}
use Rattle.cg_import.proofs.Controllers.{one_named}
use Rattle.cg_import.proofs.values.controllers_in.Goals as goal

pub loop-word-preserved-then-are_known : goal.loop-word-preserved-then-are_known
loop-word-preserved-then-are_known c =
    one_named c.loop-word.found c.add_named-is_known.new.found _ _ c.in-Some.word.now (map-append (λ w. w.now) c.loop-word.yielded (c.in-Some.word ∷ [])) c.loop-word.invariant c.add_named-is_known.ensures

pub loop-word-preserved : goal.loop-word-preserved
loop-word-preserved c =
    one_named c.loop-word.found c.add_named-is_known.new.found _ _ c.in-Some.word.now (map-append (λ w. w.now) c.loop-word.yielded (c.in-Some.word ∷ [])) c.loop-word.invariant c.add_named-is_known.ensures

pub returns : goal.returns
returns c = λ d.
    let t = end_on c.loop-word.yielded _ c.loop-word.yielded_by _ _ c.in-None.is c.next.ensures.steps (YieldsList-at c.into_iter-word-iterator.ensures.into_iter_gives (YieldsList-from_slice_split _ is_white_space c.args.text.now (c.split-word-items.ensures.rest ∙ c.as_bytes.ensures.value) c.split-word-items.ensures.done c.split-word-items.ensures.closure (λ x r q k. (refl, search rules)))) in
    subst (λ ws. IsTrue (has c.loop-word.found d) ↔ Contains ws (controller_word d)) t.0 (c.loop-word.invariant d)
