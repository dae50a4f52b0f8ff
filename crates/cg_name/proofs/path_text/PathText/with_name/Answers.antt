-- The array that is made: the text, the zero byte that is left behind it, and the name.
use Rattle.std.proofs.Common.{◌≡◌, ℕ, suc, ◌+◌, ◌-◌, ◌≤◌, List, [], ◌∷◌, ◌++◌, length, take, drop, replicate, sym, ap, ◌∙◌, arith, append_assoc, length-append}
use Rattle.std.proofs.Math.Seq.{take-append_seam}
use Rattle.std.proofs.lemmas.List.{drop-replicate}
use Rattle.std.proofs.lemmas.Slice.{take-put_mid}
use borrow.Rule.Slice.PartMut.{put_mid}
use Rattle.cg_name.proofs.path_text.PathText.with_name.Goals as goal

one_zero : (text rest : List ℕ) → take (length text + 1) (text ++ 0 ∷ rest) ≡ text ++ 0 ∷ []
one_zero text rest =
    let long : length text + 1 ≡ length (text ++ 0 ∷ []) = omega (arith, length-append text (0 ∷ [])) in
    (λ i. take (long i) (sym (append_assoc text (0 ∷ []) rest) i)) ∙ take-append_seam (text ++ 0 ∷ []) rest

joined : (text name : List ℕ) → length text + 1 + length name ≤ 12
    → take (length text + 1 + length name) (put_mid (length text + 1) (length text + 1 + length name - (length text + 1)) (text ++ drop (length text) (replicate 12 0)) name) ≡ text ++ 0 ∷ name
joined text name fits =
    let left : 12 - length text ≡ suc (11 - length text) = omega arith in
    let zeros : drop (length text) (replicate 12 0) ≡ 0 ∷ replicate (11 - length text) 0 = drop-replicate (length text) 12 0 ∙ ap (λ k. replicate k 0) left in
    let whole : text ++ drop (length text) (replicate 12 0) ≡ text ++ 0 ∷ replicate (11 - length text) 0 = ap (λ z. text ++ z) zeros in
    let room : length text + 1 ≤ length (text ++ drop (length text) (replicate 12 0)) = omega (arith, ap length whole, length-append text (0 ∷ replicate (11 - length text) 0)) in
    take-put_mid (length text + 1) (length text + 1 + length name - (length text + 1)) (text ++ drop (length text) (replicate 12 0)) name (length text + 1 + length name) (omega arith) room
    ∙ ap (λ z. take (length text + 1) z ++ name) whole
    ∙ ap (λ z. z ++ name) (one_zero text (replicate (11 - length text) 0))
    ∙ append_assoc text (0 ∷ []) name

pub returns : goal.returns
returns c =
    rw (c.copy_from_slice.ensures.after, c.copy_from_slice-2.ensures.after)
    (joined c.as_slice-text.result.now c.args.name.now c.if-len-gt-SHORT.false ∙ ap (λ t. t ++ 0 ∷ c.args.name.now) c.as_slice-text.ensures)
