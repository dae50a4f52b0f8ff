-- A set of CPU numbers, and the words of bits that hold it.
use Rattle.std.specs.Prelude.{◌≡◌, ℕ, zero, suc, ◌+◌, ◌*◌, ◌/◌, ◌%◌, ◌^◌, ◌<◌, Bool, ◌==◌, cond, List, map, length, slice_index}
use Rattle.std.specs.Int.{bit_at}
use Rattle.std.specs.List.{range_with_len}
use Rattle.cg_maps.specs.FiniteSet.{FiniteSet, has, such_that_below}

-- bit n % 64 of word n / 64
abbrev pub has_bit : List ℕ → ℕ → Bool
has_bit words n = bit_at (slice_index words (n / 64)) (n % 64) == 1

-- the numbers below 1,024 whose bits are set
unfoldable pub set_in : List ℕ → FiniteSet
set_in words = such_that_below 1024 (has_bit words)

-- the numbers below 64 whose bits are set
unfoldable pub low_set : ℕ → FiniteSet
low_set word = such_that_below 64 (λ n. bit_at word n == 1)

-- sixteen words of 64 bits
pub record AreWords (words : List ℕ) : Type 0 where
  pub count : length words ≡ 16
  pub width : (i : ℕ) → slice_index words i < 2 ^ 64

-- the number below 2 ^ n whose bit k is p k
unfoldable pub word_of_bits : ℕ → (ℕ → Bool) → ℕ
word_of_bits zero p = 0
word_of_bits (suc n) p = cond (p n) 1 0 * 2 ^ n + word_of_bits n p

-- the words that hold a set
unfoldable pub words_of : FiniteSet → List ℕ
words_of s = map (λ i. word_of_bits 64 (λ k. has s (i * 64 + k))) (range_with_len 0 16)
