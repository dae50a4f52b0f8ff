-- Putting in a range of numbers, a word at a time.
use Rattle.std.proofs.Common.{◌≡◌, ◌≢◌, ℕ, ◌+◌, ◌-◌, ◌*◌, ◌/◌, ◌%◌, ◌^◌, ◌<◌, ◌≤◌, true, false, ◌==◌, ◌&&◌, IsTrue, nat_lt, List, length, get_or, set, bit_and, bit_or, min, max, refl, sym, ap, subst, ◌∙◌, arith, ◌↔◌, ◌⊎◌, inl, inr}
use Rattle.std.specs.Int.{bit_at}
use Rattle.std.proofs.lemmas.Nat.{or_lt}
use Rattle.std.proofs.lemmas.Nat.Bits.{bit_at-lt, bit_at_or, bit_at_and, bit_at_ones, bit_at_ones_above, bit_at_mask_below, bit_at_mask_inside, ones_shl}
use Rattle.std.proofs.lemmas.List.{get_or-set_same, get_or-set_other}
use Rattle.std.proofs.lemmas.Bool.Decides.{nat_tests}
use Rattle.cg_maps.specs.FiniteSet.{has}
use Rattle.cg_cpus.specs.Words.{set_in, AreWords}
use Rattle.cg_cpus.specs.WordsBack.{has-set_in}
use Rattle.cg_cpus.proofs.Bits.{words_with}
use Rattle.cg_cpus.proofs.Words.{number_here, bit_at_behind}

-- ---- the bits of a range in one word

-- all bits from low on
abbrev ones_from : ℕ → ℕ
ones_from low = 18446744073709551615 * 2 ^ low % 18446744073709551616

-- all bits up to high
abbrev ones_to : ℕ → ℕ
ones_to high = 18446744073709551615 / 2 ^ (63 - high)

from_low : (low k : ℕ) → low < 64 → k < 64 → low ≤ k → bit_at (ones_from low) k ≡ 1
from_low low k l m from = ap (λ w. bit_at w k) (ones_shl 64 low (omega arith)) ∙ bit_at_mask_inside low 64 k from m

before_low : (low k : ℕ) → low < 64 → k < low → bit_at (ones_from low) k ≡ 0
before_low low k l before = ap (λ w. bit_at w k) (ones_shl 64 low (omega arith)) ∙ bit_at_mask_below low 64 k before

to_high : (high k : ℕ) → high < 64 → k ≤ high → bit_at (ones_to high) k ≡ 1
to_high high k l to = bit_at_behind 18446744073709551615 (63 - high) k ∙ bit_at_ones 64 (63 - high + k) (omega arith)

behind_high : (high k : ℕ) → high < 64 → high < k → bit_at (ones_to high) k ≡ 0
behind_high high k l behind = bit_at_behind 18446744073709551615 (63 - high) k ∙ bit_at_ones_above 64 (63 - high + k) (omega arith)

-- a bit stands from low to high
bit_within : (low high k : ℕ) → low < 64 → high < 64 → k < 64 → (bit_at (bit_and (ones_from low) (ones_to high)) k ≡ 1) ↔ ((low ≤ k) × (k ≤ high))
bit_within low high k l h m = (
  (λ is. (
    elim (nat_lt k low) as (λ b. nat_lt k low ≡ b → low ≤ k) [
      | true ↦ λ e. let none = before_low low k l (grind (arith, nat_tests)) in absurd (omega (arith, is, both, none))
      | false ↦ λ e. grind (arith, nat_tests)
    ] refl,
    elim (nat_lt high k) as (λ b. nat_lt high k ≡ b → k ≤ high) [
      | true ↦ λ e. let none = behind_high high k h (grind (arith, nat_tests)) in absurd (omega (arith, is, both, none))
      | false ↦ λ e. grind (arith, nat_tests)
    ] refl,
  )),
  (λ r. both ∙ (λ i. min (from_low low k l m r.0 i) (to_high high k h r.1 i))),
)
  where
    both : bit_at (bit_and (ones_from low) (ones_to high)) k ≡ min (bit_at (ones_from low) k) (bit_at (ones_to high) k)
    both = bit_at_and (ones_from low) (ones_to high) k

-- the bits of a range in the word of this index
pub bit_of_range : (first last index low high k : ℕ) → first / 64 ≤ index → index ≤ last / 64 → low ≡ first - index * 64 → high ≡ min (last - index * 64) 63 → k < 64
    → (bit_at (bit_and (ones_from low) (ones_to high)) k ≡ 1) ↔ ((first ≤ index * 64 + k) × (index * 64 + k ≤ last))
bit_of_range first last index low high k from to is_low is_high m =
    let within = bit_within low high k (omega arith) (omega arith) m in (
      (λ is. let r = within.0 is in let start = r.0 in let end = r.1 in (omega arith, omega arith)),
      (λ r. let start = r.0 in let end = r.1 in within.1 (omega arith, omega arith)),
    )

-- ---- a word that takes the bits of a range

-- a bit of two words in one
bit_of_either : (a b : ℕ) → a < 2 → b < 2 → IsTrue (max a b == 1) ↔ (IsTrue (a == 1) ⊎ (b ≡ 1))
bit_of_either a b l m = (
  (λ h. elim (a == 1) as (λ t. (a == 1) ≡ t → IsTrue t ⊎ (b ≡ 1)) [
    | true ↦ λ e. inl refl
    | false ↦ λ e. inr (grind (arith, nat_tests))
  ] refl),
  from,
)
  where
    from : IsTrue (a == 1) ⊎ (b ≡ 1) → IsTrue (max a b == 1)
    from (inl t) = grind (arith, nat_tests)
    from (inr t) = grind (arith, nat_tests)

module _ (words : List ℕ) (i w : ℕ) (h : AreWords words) (l : i < 16) where
  abbrev after : List ℕ
  after = set words i (bit_or (get_or words i 0) w)

  pub words_after : w < 2 ^ 64 → AreWords after
  words_after small = words_with words i (bit_or (get_or words i 0) w) h (or_lt 64 (get_or words i 0) w (h.width i) small)

  -- whether the word has a number
  here : (k : ℕ) → k < 64 → has (set_in after) (i * 64 + k) ≡ (max (bit_at (get_or words i 0) k) (bit_at w k) == 1)
  here k m =
      let within : i < length words = omega (arith, h.count) in
      number_here after i k l m
      ∙ ap (λ x. bit_at x k == 1) (get_or-set_same words i (bit_or (get_or words i 0) w) 0 within)
      ∙ ap (λ b. b == 1) (bit_at_or (get_or words i 0) w k)

  -- the other words are as they were
  elsewhere : (n : ℕ) → n / 64 ≢ i → has (set_in after) n ≡ has (set_in words) n
  elsewhere n ne =
      has-set_in after n
      ∙ ap (λ x. nat_lt n 1024 && (bit_at x (n % 64) == 1)) (get_or-set_other words i (n / 64) (bit_or (get_or words i 0) w) 0 ne)
      ∙ sym (has-set_in words n)

  -- the numbers of the word are those of before and those of the bits
  with_bits : (k : ℕ) → k < 64 → IsTrue (has (set_in after) (i * 64 + k)) ↔ (IsTrue (has (set_in words) (i * 64 + k)) ⊎ (bit_at w k ≡ 1))
  with_bits k m =
      subst (λ x. IsTrue x ↔ (IsTrue (has (set_in words) (i * 64 + k)) ⊎ (bit_at w k ≡ 1))) (sym (here k m))
      (subst (λ x. IsTrue (max (bit_at (get_or words i 0) k) (bit_at w k) == 1) ↔ (IsTrue x ⊎ (bit_at w k ≡ 1))) (sym (number_here words i k l m))
      (bit_of_either (bit_at (get_or words i 0) k) (bit_at w k) (bit_at-lt (get_or words i 0) k) (bit_at-lt w k)))

  -- one more word of a range
  pub range_more : (P : Type 0) (first last n : ℕ)
      → ((k : ℕ) → k < 64 → (bit_at w k ≡ 1) ↔ ((first ≤ i * 64 + k) × (i * 64 + k ≤ last)))
      → IsTrue (has (set_in words) n) ↔ (P ⊎ ((first ≤ n) × (n ≤ last) × (n < i * 64)))
      → IsTrue (has (set_in after) n) ↔ (P ⊎ ((first ≤ n) × (n ≤ last) × (n < (i + 1) * 64)))
  range_more P first last n bits known = elim (n / 64 == i) as (λ b. (n / 64 == i) ≡ b → IsTrue (has (set_in after) n) ↔ (P ⊎ ((first ≤ n) × (n ≤ last) × (n < (i + 1) * 64)))) [
    | true ↦ λ e.
        let is : n / 64 ≡ i = grind (arith, nat_tests) in
        let place : i * 64 + n % 64 ≡ n = omega (arith, is) in
        let taken = subst (λ m. IsTrue (has (set_in after) m) ↔ (IsTrue (has (set_in words) m) ⊎ (bit_at w (n % 64) ≡ 1))) place (with_bits (n % 64) (omega arith)) in
        let bit = subst (λ m. (bit_at w (n % 64) ≡ 1) ↔ ((first ≤ m) × (m ≤ last))) place (bits (n % 64) (omega arith)) in
        ((λ t. to (omega (arith, is)) bit.0 (taken.0 t)), (λ p. taken.1 (from bit.1 p)))
    | false ↦ λ e.
        let ne : n / 64 ≢ i = grind (arith, nat_tests) in
        ((λ t. wider (known.0 (sym (elsewhere n ne) ∙ t))), (λ p. elsewhere n ne ∙ known.1 (closer ne p)))
  ] refl
    where
      wider : P ⊎ ((first ≤ n) × (n ≤ last) × (n < i * 64)) → P ⊎ ((first ≤ n) × (n ≤ last) × (n < (i + 1) * 64))
      wider (inl p) = inl p
      wider (inr r) = inr (r.0, r.1, omega (arith, r.2))

      closer : n / 64 ≢ i → P ⊎ ((first ≤ n) × (n ≤ last) × (n < (i + 1) * 64)) → P ⊎ ((first ≤ n) × (n ≤ last) × (n < i * 64))
      closer ne (inl p) = inl p
      closer ne (inr r) = inr (r.0, r.1, omega (arith, r.2, ne))

      to : n < (i + 1) * 64 → (bit_at w (n % 64) ≡ 1 → (first ≤ n) × (n ≤ last)) → IsTrue (has (set_in words) n) ⊎ (bit_at w (n % 64) ≡ 1) → P ⊎ ((first ≤ n) × (n ≤ last) × (n < (i + 1) * 64))
      to end bit (inl t) = wider (known.0 t)
      to end bit (inr t) = let r = bit t in inr (r.0, r.1, end)

      from : ((first ≤ n) × (n ≤ last) → bit_at w (n % 64) ≡ 1) → P ⊎ ((first ≤ n) × (n ≤ last) × (n < (i + 1) * 64)) → IsTrue (has (set_in words) n) ⊎ (bit_at w (n % 64) ≡ 1)
      from bit (inl p) = inl (known.1 (inl p))
      from bit (inr r) = inr (bit (r.0, r.1))

-- no word of a range
pub range_none : (A : Type 0) (first last i n : ℕ) → i ≡ first / 64 → A ↔ (A ⊎ ((first ≤ n) × (n ≤ last) × (n < i * 64)))
range_none A first last i n e = ((λ a. inl a), from)
  where
    from : A ⊎ ((first ≤ n) × (n ≤ last) × (n < i * 64)) → A
    from (inl a) = a
    from (inr r) = absurd (omega (arith, e, r.0, r.2))

-- each word of a range
pub range_done : (A P : Type 0) (first last i n : ℕ) → last / 64 < i → A ↔ (P ⊎ ((first ≤ n) × (n ≤ last) × (n < i * 64))) → A ↔ (P ⊎ ((first ≤ n) × (n ≤ last)))
range_done A P first last i n behind h = ((λ a. to (h.0 a)), (λ p. h.1 (from p)))
  where
    to : P ⊎ ((first ≤ n) × (n ≤ last) × (n < i * 64)) → P ⊎ ((first ≤ n) × (n ≤ last))
    to (inl p) = inl p
    to (inr r) = inr (r.0, r.1)

    from : P ⊎ ((first ≤ n) × (n ≤ last)) → P ⊎ ((first ≤ n) × (n ≤ last) × (n < i * 64))
    from (inl p) = inl p
    from (inr r) = inr (r.0, r.1, omega (arith, behind, r.1))
