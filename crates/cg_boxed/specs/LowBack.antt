-- A set of numbers below 64 gives back the word that holds it.
use Rattle.std.specs.Prelude.{◌≡◌, ℕ, zero, suc, ◌^◌, ◌<◌, List, [], ◌∷◌, slice_index}
use Rattle.std.proofs.Common.{ap, refl, subst, sym, ◌∙◌, arith}
use Rattle.cg_maps.specs.FiniteSet.{FiniteSet}
use Rattle.cg_cpus.specs.Words.{low_set, set_in, words_of}
use Rattle.cg_cpus.specs.WordsBack.{words_back}
use Rattle.cg_cpus.proofs.Bits.{all_zero, all_zeros}
use Rattle.cg_cpus.proofs.Low.{low_words}

-- the first of the words that hold a set
abbrev pub low_word : FiniteSet → ℕ
low_word s = slice_index (words_of s) 0

-- the other words of a set of numbers below 64
abbrev others : List ℕ
others = 0 ∷ 0 ∷ 0 ∷ 0 ∷ 0 ∷ 0 ∷ 0 ∷ 0 ∷ 0 ∷ 0 ∷ 0 ∷ 0 ∷ 0 ∷ 0 ∷ 0 ∷ []

small : (w : ℕ) → w < 2 ^ 64 → (i : ℕ) → slice_index (w ∷ others) i < 2 ^ 64
small w h zero = h
small w h (suc i) = subst (λ x. x < 2 ^ 64) (sym (all_zero others (all_zeros others refl) i)) (omega arith)

pub word_back : (w : ℕ) → w < 2 ^ 64 → low_word (low_set w) ≡ w
word_back w h =
    let same : set_in (w ∷ others) ≡ low_set w = low_words w others (all_zeros others refl) in
    ap low_word (sym same) ∙ ap (λ ws. slice_index ws 0) (words_back (w ∷ others) (record { count = refl; width = small w h }))
