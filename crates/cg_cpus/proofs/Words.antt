-- Looking for a bit of the words, a word at a time.
use Rattle.std.proofs.Common.{◌≡◌, ℕ, suc, ◌+◌, ◌-◌, ◌*◌, ◌/◌, ◌%◌, ◌^◌, ◌<◌, ◌≤◌, Bool, true, false, not, true≢false, IsTrue, ◌==◌, ◌&&◌, nat_lt, List, get_or, refl, sym, ap, ◌∙◌, arith}
use Rattle.std.specs.Int.{bit_at, bit_not, trailing_zeros, w64}
use Rattle.std.proofs.Math.Nat.{div-add-mod, mod-lt, mul_comm, two-pow-succ}
use Rattle.std.proofs.lemmas.Nat.{pow_pos}
use Rattle.std.proofs.lemmas.Nat.Bits.{bit_at_lowest, bit_at-lt, bit_at_above, bit_at_cat_high, bit_at_not, bit_at-zero, bit_at-trailing_zeros}
use Rattle.std.proofs.lemmas.Bool.Decides.{nat_tests}
use Rattle.cg_maps.specs.FiniteSet.{FiniteSet, has}
use Rattle.cg_cpus.specs.Words.{set_in}
use Rattle.cg_cpus.specs.WordsBack.{has-set_in}

-- a number of word i, by its bit
pub number_here : (words : List ℕ) (i k : ℕ) → i < 16 → k < 64 → has (set_in words) (i * 64 + k) ≡ (bit_at (get_or words i 0) k == 1)
number_here words i k l m =
    let below : nat_lt (i * 64 + k) 1024 ≡ true = grind (arith, nat_tests) in
    let word : (i * 64 + k) / 64 ≡ i = omega arith in
    let bit : (i * 64 + k) % 64 ≡ k = omega arith in
    has-set_in words (i * 64 + k) ∙ (λ j. below j && (bit_at (get_or words (word j) 0) (bit j) == 1))

-- the highest bit of a word that has one, j bits above its lowest
module _ (w z j : ℕ) (sum : z + suc j ≡ 64) (low : 2 ^ j ≤ w) (high : w < 2 ^ suc j) where
  pub highest_set : bit_at w (63 - z) ≡ 1
  highest_set =
      let double : 2 ^ suc j ≡ 2 ^ j + 2 ^ j = two-pow-succ j in
      let cut : 1 * 2 ^ j + (w - 2 ^ j) ≡ w = omega arith in
      let rest : w - 2 ^ j < 2 ^ j = omega arith in
      let place : 63 - z ≡ j = omega (arith, sum) in
      let none : j - j ≡ 0 = omega arith in
      ap (bit_at w) place
      ∙ ap (λ n. bit_at n j) (sym cut)
      ∙ bit_at_cat_high 1 j (w - 2 ^ j) j rest (omega arith)
      ∙ ap (bit_at 1) none
      ∙ bit_at_lowest 1

  pub none_above : (k : ℕ) → 63 - z < k → bit_at w k ≡ 0
  none_above k l = bit_at_above w (suc j) k high (omega (arith, sum))

-- numbers of a word without the bit
pub absent_here : (words : List ℕ) (i n : ℕ) → i < 16 → i * 64 ≤ n → n < i * 64 + 64 → bit_at (get_or words i 0) (n - i * 64) ≡ 0 → has (set_in words) n ≡ false
absent_here words i n l from below is =
    let place : n ≡ i * 64 + (n - i * 64) = omega arith in
    ap (has (set_in words)) place ∙ number_here words i (n - i * 64) l (omega arith) ∙ ap (λ b. b == 1) is

-- the bits behind a shift
pub bit_at_behind : (w s k : ℕ) → bit_at (w / 2 ^ s) k ≡ bit_at w (s + k)
bit_at_behind w s k =
    let whole = div-add-mod w (2 ^ s) in
    let cut : w / 2 ^ s * 2 ^ s + w % 2 ^ s ≡ w = ap (λ x. x + w % 2 ^ s) (mul_comm (w / 2 ^ s) (2 ^ s)) ∙ whole in
    ap (bit_at (w / 2 ^ s)) (omega arith) ∙ sym (bit_at_cat_high (w / 2 ^ s) s (w % 2 ^ s) (s + k) (mod-lt w (pow_pos s)) (omega arith)) ∙ ap (λ n. bit_at n (s + k)) cut

-- nothing stands behind a word's last bit
pub nothing_behind : (w s k : ℕ) → w < 2 ^ 64 → s < 64 → 64 - s ≤ k → bit_at (w / 2 ^ s) k ≡ 0
nothing_behind w s k width l m = bit_at_behind w s k ∙ bit_at_above w 64 (s + k) width (omega arith)

module _ (words : List ℕ) (cpu i : ℕ) (e : i ≡ cpu / 64) (l : cpu < 1024) where
  in_word : (k : ℕ) → k < 64 - cpu % 64 → has (set_in words) (cpu + k) ≡ (bit_at (get_or words i 0) (cpu % 64 + k) == 1)
  in_word k m =
      let here : cpu + k ≡ i * 64 + (cpu % 64 + k) = omega (arith, e) in
      ap (has (set_in words)) here ∙ number_here words i (cpu % 64 + k) (omega (arith, e)) (omega arith)

  pub there : (k b : ℕ) → k < 64 - cpu % 64 → bit_at (get_or words i 0 / 2 ^ (cpu % 64)) k ≡ b → has (set_in words) (cpu + k) ≡ (b == 1)
  there k b m is = in_word k m ∙ ap (λ x. x == 1) (sym (bit_at_behind (get_or words i 0) (cpu % 64) k) ∙ is)

  pub not_there : (k b : ℕ) → get_or words i 0 < 2 ^ 64 → k < 64 - cpu % 64 → bit_at (bit_not w64 (get_or words i 0) / 2 ^ (cpu % 64)) k ≡ b → b < 2 → has (set_in words) (cpu + k) ≡ (b == 0)
  not_there k b width m is small =
      let turned = bit_at_not w64 (get_or words i 0) (cpu % 64 + k) width (omega arith) in
      let known = bit_at_behind (bit_not w64 (get_or words i 0)) (cpu % 64) k in
      let bit = bit_at-lt (get_or words i 0) (cpu % 64 + k) in
      let other : bit_at (get_or words i 0) (cpu % 64 + k) ≡ 1 - b = omega arith in
      in_word k m ∙ ap (λ x. x == 1) other ∙ flip b small
    where
      flip : (c : ℕ) → c < 2 → (1 - c == 1) ≡ (c == 0)
      flip c s = grind (arith, nat_tests)

-- a member is at most m where nothing above m is one
pub at_most : (s : FiniteSet) (n m : ℕ) → IsTrue (has s n) → (m < n → has s n ≡ false) → n ≤ m
at_most s n m h above = elim (nat_lt m n) as (λ b. nat_lt m n ≡ b → n ≤ m) [
  | true ↦ λ e. let l : m < n = grind (arith, nat_tests) in absurd (true≢false (sym h ∙ above l))
  | false ↦ λ e. grind (arith, nat_tests)
] refl

pub on_either_side : {P : Type 0} (n m : ℕ) → (n < m → P) → (m ≤ n → P) → P
on_either_side {P = P} n m before behind = elim (nat_lt n m) as (λ b. nat_lt n m ≡ b → P) [
  | true ↦ λ e. before (grind (arith, nat_tests))
  | false ↦ λ e. behind (grind (arith, nat_tests))
] refl

-- the first number of a word that is in a set, or that isn't, by the bits from cpu on of those that are so
module _ (s : FiniteSet) (present : Bool) (cpu found : ℕ)
    (here : (k : ℕ) → k < 64 - cpu % 64 → bit_at found k ≡ 1 → has s (cpu + k) ≡ present)
    (passed : (k : ℕ) → k < 64 - cpu % 64 → bit_at found k ≡ 0 → has s (cpu + k) ≡ not present)
    (rest : (k : ℕ) → 64 - cpu % 64 ≤ k → bit_at found k ≡ 0)
  where
    pub all_passed : found ≡ 0 → (n : ℕ) → cpu ≤ n → n < cpu + (64 - cpu % 64) → has s n ≡ not present
    all_passed none n from below =
        let place : n ≡ cpu + (n - cpu) = omega arith in
        ap (has s) place ∙ passed (n - cpu) (omega arith) (ap (λ w. bit_at w (n - cpu)) none ∙ bit_at-zero (n - cpu))

    module _ (some : 0 < found) (width : found < 2 ^ 64) where
      lowest : (trailing_zeros w64 found < 64) × (bit_at found (trailing_zeros w64 found) ≡ 1) × ((i : ℕ) → i < trailing_zeros w64 found → bit_at found i ≡ 0)
      lowest = bit_at-trailing_zeros w64 found some width

      pub first_within : trailing_zeros w64 found < 64 - cpu % 64
      first_within = elim (nat_lt (trailing_zeros w64 found) (64 - cpu % 64)) as (λ b. nat_lt (trailing_zeros w64 found) (64 - cpu % 64) ≡ b → trailing_zeros w64 found < 64 - cpu % 64) [
        | true ↦ λ e. grind (arith, nat_tests)
        | false ↦ λ e.
            let past : 64 - cpu % 64 ≤ trailing_zeros w64 found = grind (arith, nat_tests) in
            let none : ◌≡◌ {A = ℕ} 0 1 = sym (rest (trailing_zeros w64 found) past) ∙ lowest.1 in
            absurd (omega (arith, none))
      ] refl

      pub first_passed : (n : ℕ) → cpu ≤ n → n < cpu + trailing_zeros w64 found → has s n ≡ not present
      first_passed n from below =
          let within = first_within in
          let place : n ≡ cpu + (n - cpu) = omega arith in
          ap (has s) place ∙ passed (n - cpu) (omega arith) (lowest.2 (n - cpu) (omega arith))

      pub first_here : has s (cpu + trailing_zeros w64 found) ≡ present
      first_here = here (trailing_zeros w64 found) first_within lowest.1
