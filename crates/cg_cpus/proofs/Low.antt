-- Sets of numbers below 64, by the bits of a word.
use Rattle.std.proofs.Common.{◌≡◌, ℕ, suc, ◌+◌, ◌-◌, ◌*◌, ◌/◌, ◌%◌, ◌^◌, ◌<◌, ◌≤◌, true, false, ◌==◌, ◌&&◌, IsTrue, nat_lt, List, [], ◌∷◌, length, drop, get_or, bit_and, refl, sym, ap, ◌∙◌, true≢false, arith}
use Rattle.std.specs.Int.{bit_at}
use Rattle.std.specs.Int.Count.{count_leading_zeros}
use Rattle.std.specs.List.{AllByRecursion, list_all}
use Rattle.std.proofs.lemmas.Nat.{leading_top}
use Rattle.std.proofs.lemmas.Nat.Bits.{bit_at_and, bit_at-lt, bit_at-zero, same_from_bits_below, shr_and_one}
use Rattle.std.proofs.lemmas.Bool.Decides.{nat_tests}
use Rattle.cg_maps.specs.FiniteSet.{has, in_common, is_empty_set, no_members}
use Rattle.cg_maps.proofs.Sets.{same_set, has-in_common, has-no_members, has-such_that_below, empty_set-is}
use Rattle.cg_cpus.specs.Words.{has_bit, low_set, set_in, AreWords}
use Rattle.cg_cpus.specs.WordsBack.{has-set_in}
use Rattle.cg_cpus.proofs.Intersection.{both_bits}
use Rattle.cg_cpus.proofs.Bits.{all_zero, all_zeros, and_false, none}
use Rattle.cg_cpus.proofs.Words.{number_here, highest_set}

pub has-low_set : (w n : ℕ) → has (low_set w) n ≡ (nat_lt n 64 && (bit_at w n == 1))
unfolding low_set
has-low_set w n = has-such_that_below 64 (λ k. bit_at w k == 1) n

-- the test of a bit
pub low_test : (w n : ℕ) → n < 64 → (bit_and (w / 2 ^ n) 1 == 1) ≡ has (low_set w) n
low_test w n l =
    let here : nat_lt n 64 ≡ true = grind (arith, nat_tests) in
    ap (λ b. b == 1) (shr_and_one w n) ∙ sym (has-low_set w n ∙ ap (λ b. b && (bit_at w n == 1)) here)

pub not_low : (w n : ℕ) → 64 ≤ n → has (low_set w) n ≡ false
not_low w n l =
    let past : nat_lt n 64 ≡ false = grind (arith, nat_tests) in
    has-low_set w n ∙ ap (λ b. b && (bit_at w n == 1)) past

pub low_below : (w n : ℕ) → IsTrue (has (low_set w) n) → n < 64
low_below w n h = elim (nat_lt n 64) as (λ b. nat_lt n 64 ≡ b → n < 64) [
  | true ↦ λ e. grind (arith, nat_tests)
  | false ↦ λ e. absurd (true≢false (sym h ∙ not_low w n (grind (arith, nat_tests))))
] refl

-- ---- words of which only the first has bits

pub low_words : (w : ℕ) (rest : List ℕ) → AllByRecursion (λ x. x ≡ 0) rest → set_in (w ∷ rest) ≡ low_set w
low_words w rest h = same_set _ _ (λ n. has-set_in (w ∷ rest) n ∙ bits n ∙ sym (has-low_set w n))
  where
    behind : (n : ℕ) → 64 ≤ n → get_or (w ∷ rest) (n / 64) 0 ≡ 0
    behind n l =
        let next : n / 64 ≡ suc (n / 64 - 1) = omega arith in
        ap (λ i. get_or (w ∷ rest) i 0) next ∙ all_zero rest h (n / 64 - 1)

    bits : (n : ℕ) → (nat_lt n 1024 && (bit_at (get_or (w ∷ rest) (n / 64) 0) (n % 64) == 1)) ≡ (nat_lt n 64 && (bit_at w n == 1))
    bits n = elim (nat_lt n 64) as (λ b. nat_lt n 64 ≡ b → (nat_lt n 1024 && (bit_at (get_or (w ∷ rest) (n / 64) 0) (n % 64) == 1)) ≡ (b && (bit_at w n == 1))) [
      | true ↦ λ e.
          let below : n < 64 = grind (arith, nat_tests) in
          let here : nat_lt n 1024 ≡ true = grind (arith, nat_tests) in
          let first : n / 64 ≡ 0 = omega arith in
          let place : n % 64 ≡ n = omega arith in
          (λ i. here i && (bit_at (get_or (w ∷ rest) (first i) 0) (place i) == 1))
      | false ↦ λ e.
          let above : 64 ≤ n = grind (arith, nat_tests) in
          ap (λ x. nat_lt n 1024 && (bit_at x (n % 64) == 1)) (behind n above)
          ∙ ap (λ b. nat_lt n 1024 && (b == 1)) (bit_at-zero (n % 64))
          ∙ and_false (nat_lt n 1024)
    ] refl

-- ---- words of a set, in common with one

pub low_common : (w : ℕ) (words : List ℕ) → low_set (bit_and w (get_or words 0 0)) ≡ in_common (low_set w) (set_in words)
low_common w words = same_set _ _ (λ n.
    has-low_set (bit_and w (get_or words 0 0)) n ∙ bits n ∙ sym (has-in_common (low_set w) (set_in words) n ∙ (λ i. has-low_set w n i && has-set_in words n i)))
  where
    bits : (n : ℕ) → (nat_lt n 64 && (bit_at (bit_and w (get_or words 0 0)) n == 1)) ≡ ((nat_lt n 64 && (bit_at w n == 1)) && (nat_lt n 1024 && has_bit words n))
    bits n = elim (nat_lt n 64) as (λ b. nat_lt n 64 ≡ b → (b && (bit_at (bit_and w (get_or words 0 0)) n == 1)) ≡ ((b && (bit_at w n == 1)) && (nat_lt n 1024 && has_bit words n))) [
      | true ↦ λ e.
          let below : n < 64 = grind (arith, nat_tests) in
          let here : nat_lt n 1024 ≡ true = grind (arith, nat_tests) in
          let first : n / 64 ≡ 0 = omega arith in
          let place : n % 64 ≡ n = omega arith in
          ap (λ b. b == 1) (bit_at_and w (get_or words 0 0) n)
          ∙ both_bits (bit_at w n) (bit_at (get_or words 0 0) n) (bit_at-lt w n) (bit_at-lt (get_or words 0 0) n)
          ∙ sym (λ i. (bit_at w n == 1) && (here i && (bit_at (get_or words (first i) 0) (place i) == 1)))
      | false ↦ λ e. refl
    ] refl

-- ---- words of which another has bits

some_word : (xs : List ℕ) → list_all (λ w. w == 0) xs ≡ false → (k : ℕ) × (k < length xs) × (0 < get_or xs k 0)
some_word [] h = absurd (true≢false h)
some_word (x ∷ xs) h = elim (x == 0) as (λ b. (x == 0) ≡ b → (k : ℕ) × (k < length (x ∷ xs)) × (0 < get_or (x ∷ xs) k 0)) [
  | true ↦ λ e.
      let later = some_word xs (sym (ap (λ b. b && list_all (λ w. w == 0) xs) e) ∙ h) in
      let within = later.1 in
      (suc later.0, omega arith, later.2)
  | false ↦ λ e. (0, omega arith, grind (arith, nat_tests))
] refl

member_behind : (w : ℕ) (rest : List ℕ) → AreWords (w ∷ rest) → list_all (λ x. x == 0) rest ≡ false → (n : ℕ) × IsTrue (has (set_in (w ∷ rest)) n) × (64 ≤ n)
member_behind w rest h some =
    let found = some_word rest some in
    let k = found.0 in
    let x = get_or rest k 0 in
    let within : k < 15 = omega (arith, h.count, found.1) in
    let top = leading_top 64 x found.2 (h.width (suc k)) in
    let z = count_leading_zeros 64 x in
    (suc k * 64 + (63 - z), (number_here (w ∷ rest) (suc k) (63 - z) (omega arith) (omega arith) ∙ ap (λ b. b == 1) (highest_set x z top.0 top.1 top.2 top.3)), omega arith)

-- ---- the test of all the words but the first

pub low_of : (words : List ℕ) → AreWords words → list_all (λ w. w == 0) (drop 1 words) ≡ true → set_in words ≡ low_set (get_or words 0 0)
low_of [] h zeros = absurd (omega (arith, h.count))
low_of (w ∷ rest) h zeros = low_words w rest (all_zeros rest zeros)

pub other_member : (words : List ℕ) → AreWords words → list_all (λ w. w == 0) (drop 1 words) ≡ false → (n : ℕ) × IsTrue (has (set_in words) n) × (64 ≤ n)
other_member [] h some = absurd (omega (arith, h.count))
other_member (w ∷ rest) h some = member_behind w rest h some

-- ---- words of the same set

pub same_low : (w v : ℕ) → w < 2 ^ 64 → v < 2 ^ 64 → low_set w ≡ low_set v → w ≡ v
same_low w v p q e = same_from_bits_below 64 w v p q (λ n l.
    same_bit (bit_at w n) (bit_at v n) (bit_at-lt w n) (bit_at-lt v n) (sym (bit w n l) ∙ ap (λ s. has s n) e ∙ bit v n l))
  where
    bit : (w n : ℕ) → n < 64 → has (low_set w) n ≡ (bit_at w n == 1)
    bit w n l =
        let here : nat_lt n 64 ≡ true = grind (arith, nat_tests) in
        has-low_set w n ∙ ap (λ b. b && (bit_at w n == 1)) here

    same_bit : (a b : ℕ) → a < 2 → b < 2 → (a == 1) ≡ (b == 1) → a ≡ b
    same_bit a b l m e = grind (arith, nat_tests)

pub low_zero : low_set 0 ≡ no_members
low_zero = same_set _ _ (λ n.
    has-low_set 0 n ∙ ap (λ b. nat_lt n 64 && (b == 1)) (bit_at-zero n) ∙ and_false (nat_lt n 64) ∙ sym (has-no_members n))

-- the set is empty where the word is 0
pub low_empty : (w : ℕ) → w < 2 ^ 64 → (w == 0) ≡ is_empty_set (low_set w)
low_empty w small = elim (is_empty_set (low_set w)) as (λ b. is_empty_set (low_set w) ≡ b → (w == 0) ≡ b) [
  | true ↦ λ e.
      let is : w ≡ 0 = same_low w 0 small (omega arith) (empty_set-is (low_set w) e ∙ sym low_zero) in
      grind (arith, nat_tests)
  | false ↦ λ e. elim (w == 0) as (λ b. (w == 0) ≡ b → b ≡ false) [
    | true ↦ λ z.
        let is : w ≡ 0 = grind (arith, nat_tests) in
        sym (ap (λ x. is_empty_set (low_set x)) is ∙ ap is_empty_set low_zero ∙ none) ∙ e
    | false ↦ λ z. refl
  ] refl
] refl
