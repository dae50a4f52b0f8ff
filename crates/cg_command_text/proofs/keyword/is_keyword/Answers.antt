use native.Mathlib.Numerals.{unary_clauses}
use Rattle.std.proofs.Common.{◌≡◌, ℕ, ◌+◌, ◌<◌, ◌≤◌, List, ◌∷◌, [], ◌++◌, take, length, slice_index_or, refl, sym, ap, ◌∙◌, arith}
use Rattle.std.proofs.lemmas.List.{take_all}
use Rattle.std.proofs.Math.Seq.{take-suc}
use Rattle.cg_command_text.proofs.keyword.is_keyword.Goals as goal

one_more : (xs ys : List ℕ) (i : ℕ) → i < length xs → i < length ys → take i xs ≡ take i ys → slice_index_or xs i 0 ≡ slice_index_or ys i 0 → take (i + 1) xs ≡ take (i + 1) ys
one_more xs ys i a b front here =
    simp unary_clauses (take-suc xs i 0 a ∙ ap (λ w. w ++ (slice_index_or xs i 0 ∷ [])) front ∙ ap (λ b. take i ys ++ (b ∷ [])) here ∙ sym (take-suc ys i 0 b))

whole : (xs ys : List ℕ) (i : ℕ) → length xs ≤ i → length ys ≤ i → take i xs ≡ take i ys → xs ≡ ys
whole xs ys i a b same = sym (take_all i xs a) ∙ same ∙ take_all i ys b

pub loop-i-init : goal.loop-i-init
loop-i-init c = refl

pub loop-i-preserved : goal.loop-i-preserved
loop-i-preserved c =
    let long = c.if-word-keyword.false in
    let more = c.loop-i-test.true in
    one_more c.as_bytes-word.result.now c.as_bytes-keyword.result.now c.loop-i.i (omega (arith, long, more)) more c.loop-i.invariant c.if-word-i.false

pub returns : goal.returns
returns c =
    let long = c.if-word-keyword.false in
    let done = c.loop-i-test.false in
    let same = whole c.as_bytes-word.result.now c.as_bytes-keyword.result.now c.loop-i.i (omega (arith, long, done)) (omega (arith, done)) c.loop-i.invariant in
    (λ _. sym c.as_bytes-word.ensures.value ∙ same ∙ c.as_bytes-keyword.ensures.value, λ _. refl)
