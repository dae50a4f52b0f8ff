-- The words are the parts between the blanks.
use Rattle.std.proofs.Common.{◌≡◌, refl, ℕ, ◌+◌, List, [], ◌∷◌, ◌++◌, length, drop, ap, sym, ◌∙◌, rules, length-append}
use Rattle.std.specs.List.{slice_split}
use Rattle.std.proofs.Math.Seq.{drop-length}
use Rattle.std.proofs.lemmas.Iterator.Splits.{YieldsList-from_slice_split}
use Rattle.std.proofs.lemmas.Iterator.Consumers.{YieldsList-at}
use Rattle.cg_digits.specs.WhiteSpace.{is_white_space}
use Rattle.cg_text.proofs.Operations.{next_left, next_round, no_round, all_taken, turn_on, end_on}
use Rattle.cg_text.proofs.reading.read_ops.Goals as goal

pub loop-word-preserved : goal.loop-word-preserved
loop-word-preserved c = λ all.
    let parts : List (List ℕ) = slice_split is_white_space c.args.text.now in
    let t = turn_on c.loop-word.yielded _ c.loop-word.yielded_by _ _ c.in-Some.word c.in-Some.is c.next.ensures.steps (YieldsList-at c.into_iter-word-iterator.ensures.into_iter_gives (YieldsList-from_slice_split _ is_white_space c.args.text.now (c.split-word-items.ensures.rest ∙ c.as_bytes.ensures.value) c.split-word-items.ensures.done c.split-word-items.ensures.closure (λ x r q k. (refl, search rules)))) in
    let longer : length (c.loop-word.yielded ++ c.in-Some.word ∷ []) ≡ length c.loop-word.yielded + 1 = length-append c.loop-word.yielded (c.in-Some.word ∷ []) in
    let left = next_left parts (length c.loop-word.yielded) c.in-Some.word.now t.0 t.1 ∙ ap (λ n. c.in-Some.word.now ∷ drop n parts) (sym longer) in
    next_round _ c.loop-word.ops c.add_word.new.ops c.in-Some.word.now _ _ all left c.in_ok-add_word.ensures.value (c.loop-word.invariant all)

pub returns-in_err-add_word-clause-syntax : goal.returns-in_err-add_word-clause-syntax
returns-in_err-add_word-clause-syntax c =
    let parts : List (List ℕ) = slice_split is_white_space c.args.text.now in
    let t = turn_on c.loop-word.yielded _ c.loop-word.yielded_by _ _ c.in-Some.word c.in-Some.is c.next.ensures.steps (YieldsList-at c.into_iter-word-iterator.ensures.into_iter_gives (YieldsList-from_slice_split _ is_white_space c.args.text.now (c.split-word-items.ensures.rest ∙ c.as_bytes.ensures.value) c.split-word-items.ensures.done c.split-word-items.ensures.closure (λ x r q k. (refl, search rules)))) in
    let left = next_left parts (length c.loop-word.yielded) c.in-Some.word.now t.0 t.1 in
    λ _ all. no_round _ c.loop-word.ops c.in-Some.word.now _ _ all left c.in_err-add_word.ensures.syntax (c.loop-word.invariant all)

pub returns-clause-value : goal.returns-clause-value
returns-clause-value c =
    let parts : List (List ℕ) = slice_split is_white_space c.args.text.now in
    let t = end_on c.loop-word.yielded _ c.loop-word.yielded_by _ _ c.in-None.is c.next.ensures.steps (YieldsList-at c.into_iter-word-iterator.ensures.into_iter_gives (YieldsList-from_slice_split _ is_white_space c.args.text.now (c.split-word-items.ensures.rest ∙ c.as_bytes.ensures.value) c.split-word-items.ensures.done c.split-word-items.ensures.closure (λ x r q k. (refl, search rules)))) in
    all_taken _ c.loop-word.ops _ (ap (λ n. drop n parts) t.1 ∙ drop-length parts) (c.loop-word.invariant c.loop-word.ops)
