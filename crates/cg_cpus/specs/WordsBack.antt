-- The words of a set give the set back.
use Rattle.std.proofs.Common.{◌≡◌, ◌≢◌, ℕ, zero, suc, ◌+◌, ◌*◌, ◌/◌, ◌%◌, ◌^◌, ◌<◌, Bool, true, false, ◌==◌, ◌&&◌, cond, List, get_or, refl, sym, ap, ◌∙◌, ◌-◌, arith}
use Rattle.std.specs.Prelude.{nat_lt}
use Rattle.std.specs.Int.{bit_at}
use Rattle.std.proofs.lemmas.Bool.Decides.{nat_tests}
use Rattle.std.proofs.lemmas.Nat.Bits.{bit_at-lt, same_from_bits_below, bit_at_cat_low, bit_at_cat_high}
use Rattle.std.proofs.lemmas.Grind.{same_number_lists}
use Rattle.std.proofs.lemmas.List.FromFn.{length-map-range_with_len, get_or-map-range_with_len}
use Rattle.cg_maps.specs.FiniteSet.{has}
use Rattle.cg_maps.proofs.Sets.{has-such_that_below}
use Rattle.cg_cpus.specs.Words.{has_bit, set_in, AreWords, word_of_bits, words_of}

-- a bit as a number
abbrev bit : Bool → ℕ
bit b = cond b 1 0

bit-lt : (b : Bool) → bit b < 2
bit-lt true = omega arith
bit-lt false = omega arith

small_bit : (b : Bool) → bit_at (bit b) 0 ≡ bit b
small_bit true = refl
small_bit false = refl

word-lt : (n : ℕ) (p : ℕ → Bool) → word_of_bits n p < 2 ^ n
unfolding word_of_bits
word-lt zero p = omega arith
word-lt (suc n) p = grind (arith, word-lt n p, bit-lt (p n))

bit_at-word : (n : ℕ) (p : ℕ → Bool) (k : ℕ) → k < n → bit_at (word_of_bits n p) k ≡ bit (p k)
unfolding word_of_bits
bit_at-word zero p k h = absurd (omega arith)
bit_at-word (suc n) p k h = elim (k == n) as (λ b. (k == n) ≡ b → bit_at (bit (p n) * 2 ^ n + word_of_bits n p) k ≡ bit (p k)) [
  | true ↦ λ e.
      let is : k ≡ n = grind (arith, nat_tests) in
      bit_at_cat_high (bit (p n)) n (word_of_bits n p) k (word-lt n p) (omega arith)
      ∙ ap (bit_at (bit (p n))) {x = k - n} {y = 0} (omega arith) ∙ small_bit (p n) ∙ ap (λ m. bit (p m)) (sym is)
  | false ↦ λ e.
      let ne : k ≢ n = grind (arith, nat_tests) in
      bit_at_cat_low (bit (p n)) n (word_of_bits n p) k (omega arith) ∙ bit_at-word n p k (omega arith)
] refl

-- the bit of a bit test
bit_of_test : (n : ℕ) → n < 2 → bit (n == 1) ≡ n
bit_of_test n h = grind (arith, nat_tests)

pub has-set_in : (words : List ℕ) (n : ℕ) → has (set_in words) n ≡ (nat_lt n 1024 && has_bit words n)
unfolding set_in
has-set_in words n = has-such_that_below 1024 (has_bit words) n

in_word : (words : List ℕ) (i k : ℕ) → i < 16 → k < 64 → bit (nat_lt (i * 64 + k) 1024 && has_bit words (i * 64 + k)) ≡ bit_at (get_or words i 0) k
in_word words i k l m =
    let here : nat_lt (i * 64 + k) 1024 ≡ true = grind (arith, nat_tests) in
    let word : (i * 64 + k) / 64 ≡ i = omega arith in
    let place : (i * 64 + k) % 64 ≡ k = omega arith in
    (λ j. bit (here j && (bit_at (get_or words (word j) 0) (place j) == 1)))
    ∙ bit_of_test (bit_at (get_or words i 0) k) (bit_at-lt (get_or words i 0) k)

word_back : (words : List ℕ) → AreWords words → (i : ℕ) → i < 16 → word_of_bits 64 (λ k. has (set_in words) (i * 64 + k)) ≡ get_or words i 0
word_back words h i l = same_from_bits_below 64 _ _ (word-lt 64 (λ k. has (set_in words) (i * 64 + k))) (h.width i) (λ k m.
    bit_at-word 64 _ k m
    ∙ ap bit (has-set_in words (i * 64 + k))
    ∙ in_word words i k l m)

pub words_back : (words : List ℕ) → AreWords words → words_of (set_in words) ≡ words
unfolding words_of
words_back words h =
    let word : ℕ → ℕ = λ i. word_of_bits 64 (λ k. has (set_in words) (i * 64 + k)) in
    same_number_lists _ _ (length-map-range_with_len {X = ℕ} word 0 16 ∙ sym h.count) (λ i l.
    let within : i < 16 = omega (arith, l, length-map-range_with_len {X = ℕ} word 0 16) in
    get_or-map-range_with_len {X = ℕ} word 0 16 i i 0 within (omega arith) ∙ word_back words h i within)
