-- The first bytes, those behind them, and zero bytes.
use Rattle.std.proofs.Common.{◌≡◌, ℕ, suc, ◌+◌, ◌-◌, ◌*◌, ◌≤◌, List, ◌++◌, length, take, drop, replicate, sym, ap, ◌∙◌, append_assoc, arith, length-append, length-drop}
use Rattle.std.specs.Int.{w32, from_le_bytes}
use Rattle.std.specs.Simd.Lanes.{digits_l}
use Rattle.std.proofs.Math.Seq.{take-add}
use Rattle.std.proofs.lemmas.List.{length-replicate, length-take-le, replicate-append-replicate, take-append-drop}
use Rattle.cg_name.proofs.FewBytes.{AreBytes, bytes_before_zeros, bytes_behind, first_bytes, four_digits}
use Rattle.cg_name.proofs.simple.padded.Goals as goal

-- the first bytes of a word, the others with zero bytes behind them, and more of those
joined : (word : List ℕ) (n m k : ℕ) → take n word ++ ((drop n word ++ replicate m 0) ++ replicate k 0) ≡ word ++ replicate (m + k) 0
joined word n m k =
    ap (λ z. take n word ++ z) (append_assoc (drop n word) (replicate m 0) (replicate k 0))
    ∙ sym (append_assoc (take n word) (drop n word) (replicate m 0 ++ replicate k 0))
    ∙ (λ i. take-append-drop n word i ++ replicate-append-replicate m k 0 i)

module _ (word : List ℕ) (bytes : AreBytes word) where
  -- the number of four bytes
  four : (n k m : ℕ) → n + 4 ≤ length word → digits_l 256 (suc (suc (suc (suc k)))) (from_le_bytes w32 (take 4 (drop n word)) + 4294967296 * m) ≡ take 4 (drop n word) ++ digits_l 256 k m
  four n k m within =
      four_digits (take 4 (drop n word)) m k (length-take-le 4 (drop n word) (omega (arith, within, length-drop n word))) (first_bytes 4 (drop n word) (bytes_behind n word bytes))

  -- and that of the others
  others : (n k m : ℕ) → n ≤ length word → length word ≤ n + 4 → digits_l 256 (suc (suc (suc (suc k)))) (from_le_bytes w32 (drop n word ++ replicate (n + 4 - length word) 0) + 4294967296 * m) ≡ (drop n word ++ replicate (n + 4 - length word) 0) ++ digits_l 256 k m
  others n k m some few =
      let zeros : List ℕ = replicate (n + 4 - length word) 0 in
      four_digits (drop n word ++ zeros) m k
      (omega (arith, some, few, length-append (drop n word) zeros, length-drop n word, length-replicate {A = ℕ} (n + 4 - length word) 0))
      (bytes_before_zeros (n + 4 - length word) (drop n word) (bytes_behind n word bytes))

  of_two : 4 ≤ length word → length word ≤ 8
      → digits_l 256 16 (from_le_bytes w32 (take 4 word) + 4294967296 * (from_le_bytes w32 (drop 4 word ++ replicate (8 - length word) 0) + 4294967296 * 0)) ≡ word ++ replicate (16 - length word) 0
  of_two some few =
      four 0 12 (from_le_bytes w32 (drop 4 word ++ replicate (8 - length word) 0) + 4294967296 * 0) some
      ∙ ap (λ z. take 4 word ++ z) (others 4 8 0 some few)
      ∙ joined word 4 (8 - length word) 8
      ∙ ap (λ k. word ++ replicate k 0) (omega (arith, few))

  of_three : 8 ≤ length word → length word ≤ 12
      → digits_l 256 16 (from_le_bytes w32 (take 4 word) + 4294967296 * (from_le_bytes w32 (take 4 (drop 4 word)) + 4294967296 * (from_le_bytes w32 (drop 8 word ++ replicate (12 - length word) 0) + 4294967296 * 0)))
      ≡ word ++ replicate (16 - length word) 0
  of_three some few =
      let rest : ℕ = from_le_bytes w32 (drop 8 word ++ replicate (12 - length word) 0) + 4294967296 * 0 in
      four 0 12 (from_le_bytes w32 (take 4 (drop 4 word)) + 4294967296 * rest) (omega (arith, some))
      ∙ ap (λ z. take 4 word ++ z) (four 4 8 rest some ∙ ap (λ z. take 4 (drop 4 word) ++ z) (others 8 4 0 some few))
      ∙ sym (append_assoc (take 4 word) (take 4 (drop 4 word)) ((drop 8 word ++ replicate (12 - length word) 0) ++ replicate 4 0))
      ∙ ap (λ z. z ++ ((drop 8 word ++ replicate (12 - length word) 0) ++ replicate 4 0)) (sym (take-add 4 4 word))
      ∙ joined word 8 (12 - length word) 4
      ∙ ap (λ k. word ++ replicate k 0) (omega (arith, few))

pub returns-then-word-lt8 : goal.returns-then-word-lt8
returns-then-word-lt8 c =
    (λ i. digits_l 256 16 (c.four_at-first.ensures i + 4294967296 * (c.last_from.ensures i + 4294967296 * 0)))
    ∙ of_two c.args.word.now (λ i. let fits = c.type_inv.word i in omega (arith, fits.fits)) c.requires.some (omega (arith, c.if-word-lt8.true))

pub returns : goal.returns
returns c =
    (λ i. digits_l 256 16 (c.four_at-first.ensures i + 4294967296 * (c.four_at.ensures i + 4294967296 * (c.last_from-2.ensures i + 4294967296 * 0))))
    ∙ of_three c.args.word.now (λ i. let fits = c.type_inv.word i in omega (arith, fits.fits)) c.if-word-lt8.false c.requires.few
