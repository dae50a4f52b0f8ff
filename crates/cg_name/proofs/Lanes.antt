-- Bytes compared at once, lane by lane.
use Rattle.std.proofs.Common.{◌≡◌, ℕ, ◌+◌, ◌*◌, ◌^◌, ◌%◌, ◌≤◌, ◌==◌, ◌&&◌, ◌||◌, Bool, true, false, cond, List, length, map, replicate, bit_and, bit_or, refl, arith}
use Rattle.std.proofs.lemmas.List.{length-map}
use Rattle.std.proofs.lemmas.Simd.{mask_l-mod}
use Rattle.std.specs.Simd.Lanes.{zip2, mask_l, top}

-- the lanes of n bytes that are this one, and the lanes where either is set
abbrev pub equal_lanes : ℕ → List ℕ → ℕ → List ℕ
equal_lanes n xs y = zip2 (λ x z. cond (x == z) 255 0) xs (replicate n y)

abbrev pub either_lanes : List ℕ → List ℕ → List ℕ
either_lanes xs ys = zip2 bit_or xs ys

pub or_lanes : (a b : Bool) → bit_or (cond a 255 0) (cond b 255 0) ≡ cond (a || b) 255 0
or_lanes true true = refl
or_lanes true false = refl
or_lanes false true = refl
or_lanes false false = refl

pub and_lanes : (a b : Bool) → bit_and (cond a 255 0) (cond b 255 0) ≡ cond (a && b) 255 0
and_lanes true true = refl
and_lanes true false = refl
and_lanes false true = refl
and_lanes false false = refl

pub top_lane : (a : Bool) → top 7 (cond a 255 0) ≡ a
top_lane true = refl
top_lane false = refl

pub top_of_two : (a b : Bool) → top 7 (bit_or (cond a 255 0) (cond b 255 0)) ≡ a || b
top_of_two a b = simp or_lanes (top_lane (a || b))

pub top_of_three : (a b c : Bool) → top 7 (bit_or (bit_or (cond a 255 0) (cond b 255 0)) (cond c 255 0)) ≡ (a || b) || c
top_of_three a b c = simp or_lanes (top_lane ((a || b) || c))

pub mask_fits : (p : ℕ → Bool) (xs : List ℕ) → length xs ≤ 64 → mask_l (map p xs) % 2 ^ 64 ≡ mask_l (map p xs)
mask_fits p xs few = mask_l-mod (map p xs) 64 (omega (arith, length-map xs p))

-- a bit that isn't set, ahead of others that aren't
pub bit_none : (m : Bool) (n : ℕ) → cond m 1 0 + 2 * n ≡ 0 → (m ≡ false) × (n ≡ 0)
bit_none true n e = absurd (omega (arith, e))
bit_none false n e = (refl, omega (arith, e))
