-- Four bytes as a number, and numbers as the bytes of lanes.
use Rattle.std.proofs.Common.{◌≡◌, ℕ, zero, suc, ◌+◌, ◌*◌, ◌/◌, ◌%◌, ◌^◌, ◌<◌, ◌≤◌, List, [], ◌∷◌, ◌++◌, length, take, drop, get_or, replicate, ap, ◌∙◌, arith}
use Rattle.std.specs.Int.{w32, from_le_bytes}
use Rattle.std.specs.Simd.Lanes.{digits_l}

abbrev pub AreBytes : List ℕ → Type 0
AreBytes xs = (i : ℕ) → get_or xs i 0 < 256

pub bytes_behind : (n : ℕ) (xs : List ℕ) → AreBytes xs → AreBytes (drop n xs)
bytes_behind zero xs h = h
bytes_behind (suc n) [] h = h
bytes_behind (suc n) (x ∷ xs) h = bytes_behind n xs (λ i. h (suc i))

pub first_bytes : (n : ℕ) (xs : List ℕ) → AreBytes xs → AreBytes (take n xs)
first_bytes zero xs h i = omega arith
first_bytes (suc n) [] h i = h i
first_bytes (suc n) (x ∷ xs) h zero = h 0
first_bytes (suc n) (x ∷ xs) h (suc i) = first_bytes n xs (λ j. h (suc j)) i

zeros_are_bytes : (n : ℕ) → AreBytes (replicate n 0)
zeros_are_bytes zero i = omega arith
zeros_are_bytes (suc n) zero = omega arith
zeros_are_bytes (suc n) (suc i) = zeros_are_bytes n i

pub bytes_before_zeros : (n : ℕ) (xs : List ℕ) → AreBytes xs → AreBytes (xs ++ replicate n 0)
bytes_before_zeros n [] h i = zeros_are_bytes n i
bytes_before_zeros n (x ∷ xs) h zero = h 0
bytes_before_zeros n (x ∷ xs) h (suc i) = bytes_before_zeros n xs (λ j. h (suc j)) i

-- ---- a number of four bytes, shifted down by some of them

behind : (a b c d k : ℕ) → a < 256 → b < 256 → c < 256 → d < 256 → k ≤ 4 → from_le_bytes w32 (a ∷ b ∷ c ∷ d ∷ []) / 2 ^ (8 * k) ≡ from_le_bytes w32 (drop k (a ∷ b ∷ c ∷ d ∷ []) ++ replicate k 0)
behind a b c d zero ha hb hc hd few = omega (arith, ha, hb, hc, hd)
behind a b c d (suc zero) ha hb hc hd few = omega (arith, ha, hb, hc, hd)
behind a b c d (suc (suc zero)) ha hb hc hd few = omega (arith, ha, hb, hc, hd)
behind a b c d (suc (suc (suc zero))) ha hb hc hd few = omega (arith, ha, hb, hc, hd)
behind a b c d (suc (suc (suc (suc zero)))) ha hb hc hd few = omega (arith, ha, hb, hc, hd)
behind a b c d (suc (suc (suc (suc (suc k))))) ha hb hc hd few = absurd (omega (arith, few))

pub shifted : (bs : List ℕ) (k : ℕ) → length bs ≡ 4 → AreBytes bs → k ≤ 4 → from_le_bytes w32 bs / 2 ^ (8 * k) ≡ from_le_bytes w32 (drop k bs ++ replicate k 0)
shifted [] k l small few = absurd (omega (arith, l))
shifted (a ∷ []) k l small few = absurd (omega (arith, l))
shifted (a ∷ b ∷ []) k l small few = absurd (omega (arith, l))
shifted (a ∷ b ∷ c ∷ []) k l small few = absurd (omega (arith, l))
shifted (a ∷ b ∷ c ∷ d ∷ []) k l small few = behind a b c d k (small 0) (small 1) (small 2) (small 3) few
shifted (a ∷ b ∷ c ∷ d ∷ e ∷ bs) k l small few = absurd (omega (arith, l))

-- ---- the bytes of lanes of four bytes

one_digit : (a m n : ℕ) → a < 256 → digits_l 256 (suc n) (a + 256 * m) ≡ a ∷ digits_l 256 n m
one_digit a m n low =
    let here : (a + 256 * m) % 256 ≡ a = omega (arith, low) in
    let rest : (a + 256 * m) / 256 ≡ m = omega (arith, low) in
    λ i. here i ∷ digits_l 256 n (rest i)

pub four_digits : (bs : List ℕ) (m n : ℕ) → length bs ≡ 4 → AreBytes bs → digits_l 256 (suc (suc (suc (suc n)))) (from_le_bytes w32 bs + 4294967296 * m) ≡ bs ++ digits_l 256 n m
four_digits [] m n l small = absurd (omega (arith, l))
four_digits (a ∷ []) m n l small = absurd (omega (arith, l))
four_digits (a ∷ b ∷ []) m n l small = absurd (omega (arith, l))
four_digits (a ∷ b ∷ c ∷ []) m n l small = absurd (omega (arith, l))
four_digits (a ∷ b ∷ c ∷ d ∷ []) m n l small =
    let apart : from_le_bytes w32 (a ∷ b ∷ c ∷ d ∷ []) + 4294967296 * m ≡ a + 256 * (b + 256 * (c + 256 * (d + 256 * m))) = omega arith in
    ap (digits_l 256 (suc (suc (suc (suc n))))) apart
    ∙ one_digit a (b + 256 * (c + 256 * (d + 256 * m))) (suc (suc (suc n))) (small 0)
    ∙ ap (λ z. a ∷ z) (one_digit b (c + 256 * (d + 256 * m)) (suc (suc n)) (small 1))
    ∙ ap (λ z. a ∷ b ∷ z) (one_digit c (d + 256 * m) (suc n) (small 2))
    ∙ ap (λ z. a ∷ b ∷ c ∷ z) (one_digit d m n (small 3))
four_digits (a ∷ b ∷ c ∷ d ∷ e ∷ bs) m n l small = absurd (omega (arith, l))
