-- Sixteen bytes tested at once, each with the one before it.
use Rattle.std.proofs.Common.{◌≡◌, ℕ, zero, suc, ◌+◌, ◌-◌, ◌*◌, ◌<◌, ◌≤◌, ◌/◌, ◌%◌, ◌^◌, ◌==◌, ◌&&◌, ◌||◌, Bool, true, false, not, cond, leb, ltb, List, [], ◌∷◌, length, map, take, drop, replicate, get_or, bit_and, bit_or, inl, inr, refl, sym, ap, ◌∙◌, arith, length-take, length-drop, ltb-true, ltb-false}
use Rattle.std.specs.Simd.Lanes.{zip2, mask_l, top}
use Rattle.std.proofs.lemmas.Bool.{cases_Bool, not-false}
use Rattle.std.proofs.lemmas.Bool.Decides.{nat_tests}
use Rattle.std.proofs.lemmas.List.{drop-drop, get_or-drop, get_or-take, take_all}
use Rattle.std.proofs.lemmas.Nat.{mod-pow-add, pow_pos, shl-shr}
use Rattle.std.proofs.lemmas.Simd.{bit_mask_l, get_or-zip2, length-zip2, mask_l-mod}
use Rattle.cg_name.specs.Simple.{may_follow, misplaced, GoesOn}
use Rattle.cg_name.proofs.Lanes.{equal_lanes, either_lanes, or_lanes, and_lanes, top_lane}

-- a byte that may not stand behind that one
abbrev bad : ℕ → ℕ → Bool
bad before b = ((ltb b 45 || (b == 46)) || ((b == 92) || leb 128 b)) || ((b == 47) && (before == 47))

is_misplaced : (before b : ℕ) → bad before b ≡ not (may_follow before b)
is_misplaced before b = grind (arith, nat_tests)

unset : (b : Bool) → ◌≡◌ {A = ℕ} (cond b 1 0) 0 → b ≡ false
unset true h = absurd (omega (arith, h))
unset false h = refl

-- ---- the lanes

lane : (a b c d e f : Bool)
    → top 7 (bit_or (bit_or (bit_or (cond a 255 0) (cond b 255 0)) (bit_or (cond c 255 0) (cond d 255 0))) (bit_and (cond e 255 0) (cond f 255 0)))
    ≡ ((a || b) || (c || d)) || (e && f)
lane a b c d e f = simp (or_lanes, and_lanes) (top_lane (((a || b) || (c || d)) || (e && f)))

-- the lanes where a byte may not stand, of n bytes and those before them
abbrev bad_lanes : ℕ → List ℕ → List ℕ → List ℕ
bad_lanes n bs ps =
    let low = either_lanes (zip2 (λ x y. cond (ltb x y) 255 0) bs (replicate n 45)) (equal_lanes n bs 46) in
    let high = either_lanes (equal_lanes n bs 92) (zip2 (λ x y. cond (leb x y) 255 0) (replicate n 128) bs) in
    either_lanes (either_lanes low high) (zip2 bit_and (equal_lanes n bs 47) (equal_lanes n ps 47))

lanes_are : (bs ps : List ℕ) (n : ℕ) → length bs ≡ n → length ps ≡ n → map (top 7) (bad_lanes n bs ps) ≡ misplaced bs ps
lanes_are [] [] n e h = refl
lanes_are [] (p ∷ ps) n e h = refl
lanes_are (b ∷ bs) [] n e h = absurd (omega (arith, e, h))
lanes_are (b ∷ bs) (p ∷ ps) zero e h = absurd (omega (arith, e))
lanes_are (b ∷ bs) (p ∷ ps) (suc n) e h =
    λ i. (lane (ltb b 45) (b == 46) (b == 92) (leb 128 b) (b == 47) (p == 47) ∙ is_misplaced p b) i ∷ lanes_are bs ps n (omega (arith, e)) (omega (arith, h)) i

-- the bits of sixteen lanes
pub misplaced_lanes : (bs ps : List ℕ) → length bs ≡ 16 → length ps ≡ 16 → mask_l (map (top 7) (bad_lanes 16 bs ps)) % 2 ^ 64 ≡ mask_l (misplaced bs ps)
misplaced_lanes bs ps e h =
    ap (λ ms. mask_l ms % 2 ^ 64) (lanes_are bs ps 16 e h)
    ∙ mask_l-mod (misplaced bs ps) 64 (omega (arith, e, length-zip2 (λ b before. not (may_follow before b)) bs ps (e ∙ sym h)))

none_of_product : (b p : ℕ) → 0 < p → b * p ≡ 0 → b ≡ 0
none_of_product zero p some e = refl
none_of_product (suc b) p some e = absurd (omega (arith, some, e))

none_of_sum : (a b : ℕ) → a + b ≡ 0 → (a ≡ 0) × (b ≡ 0)
none_of_sum a b e = (omega (arith, e), omega (arith, e))

-- where the lowest bits are none, each of them is
low_bit : (m n k : ℕ) → k < n → m % 2 ^ n ≡ 0 → m / 2 ^ k % 2 ≡ 0
low_bit m n k low none =
    let j : ℕ = n - suc k in
    let cut : j + suc k ≡ n = omega (arith, low) in
    let next : 1 + k ≡ suc k = omega arith in
    let whole : m % 2 ^ (j + suc k) ≡ 0 = ap (λ i. m % 2 ^ i) cut ∙ none in
    let lower = none_of_sum ((m / 2 ^ suc k % 2 ^ j) * 2 ^ suc k) (m % 2 ^ suc k) (sym (mod-pow-add m j (suc k)) ∙ whole) in
    let one = none_of_sum ((m / 2 ^ k % 2 ^ 1) * 2 ^ k) (m % 2 ^ k) (sym (mod-pow-add m 1 k) ∙ ap (λ i. m % 2 ^ i) next ∙ lower.1) in
    none_of_product (m / 2 ^ k % 2) (2 ^ k) (pow_pos k) one.0

-- where nothing is left of a number that was shifted up, its lowest bits are none
pub none_shifted : (m n k : ℕ) → m * 2 ^ k % 2 ^ (n + k) ≡ 0 → m % 2 ^ n ≡ 0
none_shifted m n k none =
    let high = none_of_sum ((m * 2 ^ k / 2 ^ k % 2 ^ n) * 2 ^ k) (m * 2 ^ k % 2 ^ k) (sym (mod-pow-add (m * 2 ^ k) n k) ∙ none) in
    ap (λ i. i % 2 ^ n) (sym (shl-shr m k)) ∙ none_of_product (m * 2 ^ k / 2 ^ k % 2 ^ n) (2 ^ k) (pow_pos k) high.0

-- where none of so many bits is set, each of these bytes may stand behind the one before it
pub none_misplaced : (bs ps : List ℕ) (n k : ℕ) → k < n → n ≤ length bs → length ps ≡ length bs → mask_l (misplaced bs ps) % 2 ^ n ≡ 0 → may_follow (get_or ps k 0) (get_or bs k 0) ≡ true
none_misplaced bs ps n k low within same none =
    let bit : ◌≡◌ {A = ℕ} (cond (get_or (misplaced bs ps) k false) 1 0) 0 = sym (bit_mask_l (misplaced bs ps) k) ∙ low_bit (mask_l (misplaced bs ps)) n k low none in
    let here : get_or (misplaced bs ps) k false ≡ not (may_follow (get_or ps k 0) (get_or bs k 0)) = get_or-zip2 (λ b before. not (may_follow before b)) bs ps k 0 0 false (omega (arith, low, within)) (omega (arith, low, within, same)) in
    not-false (may_follow (get_or ps k 0) (get_or bs k 0)) (sym here ∙ unset (get_or (misplaced bs ps) k false) bit)

-- the same of seventeen bytes
pub front_follows : (front : List ℕ) → length front ≡ 17 → mask_l (misplaced (take 16 (take 16 (drop 1 front))) (take 16 (take 16 front))) ≡ 0 → GoesOn front
front_follows front e none k low =
    let bs = take 16 (take 16 (drop 1 front)) in
    let ps = take 16 (take 16 front) in
    let few : k < 16 = omega (arith, low, e) in
    let here : get_or bs k 0 ≡ get_or front (suc k) 0 = get_or-take 16 (take 16 (drop 1 front)) k 0 few ∙ get_or-take 16 (drop 1 front) k 0 few ∙ get_or-drop 1 front k 0 ∙ ap (λ i. get_or front i 0) (omega arith) in
    let before : get_or ps k 0 ≡ get_or front k 0 = get_or-take 16 (take 16 front) k 0 few ∙ get_or-take 16 front k 0 few in
    let many : length bs ≡ 16 = omega (arith, e, length-take 16 (take 16 (drop 1 front)), length-take 16 (drop 1 front), length-drop 1 front) in
    let many_before : length ps ≡ 16 = omega (arith, e, length-take 16 (take 16 front), length-take 16 front) in
    (λ i. may_follow (sym before i) (sym here i))
    ∙ none_misplaced bs ps 16 k few (omega (arith, many)) (many_before ∙ sym many) (ap (λ m. m % 2 ^ 16) none)

-- ---- one step over a text

-- the bytes of a text up to that place, and the one there, may stand where they do
abbrev TestedTo : List ℕ → ℕ → Type 0
TestedTo text i = (k : ℕ) → k < i → suc k < length text → may_follow (get_or text k 0) (get_or text (suc k) 0) ≡ true

module _ (text part : List ℕ) (from n : ℕ) (is : part ≡ take n (drop from text)) (on : GoesOn part) where
  part_at : (k : ℕ) → k < n → get_or text (from + k) 0 ≡ get_or part k 0
  part_at k low = sym (ap (λ xs. get_or xs k 0) is ∙ get_or-take n (drop from text) k 0 low ∙ get_or-drop from text k 0)

  -- what holds of a part holds of the text there
  pub part_follows : (k : ℕ) → suc k < n → suc k < length part → may_follow (get_or text (from + k) 0) (get_or text (from + suc k) 0) ≡ true
  part_follows k low within = (λ i. may_follow (part_at k (omega (arith, low)) i) (part_at (suc k) low i)) ∙ on k within

pub one_step : (text rest front next : List ℕ) → length rest ≤ length text → rest ≡ drop (length text - length rest) text → TestedTo text (length text - length rest) → 17 ≤ length rest → front ≡ take 17 rest → GoesOn front → next ≡ take (length rest - 16) (drop 16 rest)
    → (length next ≤ length text) × (next ≡ drop (length text - length next) text) × TestedTo text (length text - length next)
one_step text rest front next within is tested many first on step =
    let whole : next ≡ drop 16 rest = step ∙ take_all (length rest - 16) (drop 16 rest) (omega (arith, length-drop 16 rest)) in
    let shorter : length next + 16 ≡ length rest = omega (arith, many, ap length whole, length-drop 16 rest) in
    let at : length text - length rest + 16 ≡ length text - length next = omega (arith, within, shorter) in
    let part : front ≡ take 17 (drop (length text - length rest) text) = first ∙ ap (take 17) is in
    let size : length front ≡ 17 = omega (arith, many, ap length first, length-take 17 rest) in (
      omega (arith, within, shorter),
      whole ∙ ap (drop 16) is ∙ drop-drop 16 (length text - length rest) text ∙ ap (λ i. drop i text) at,
      λ k low inside. elim (cases_Bool (ltb k (length text - length rest))) [
        | inr late ↦
            let past = ltb-false k (length text - length rest) late in
            let j = k - (length text - length rest) in
            let there : length text - length rest + j ≡ k = omega (arith, past) in
            let after : length text - length rest + suc j ≡ suc k = omega (arith, past) in
            (λ i. may_follow (get_or text (sym there i) 0) (get_or text (sym after i) 0))
            ∙ part_follows text front (length text - length rest) 17 part on j (omega (arith, low, past, at)) (omega (arith, low, past, at, size))
        | inl early ↦ tested k (ltb-true k (length text - length rest) early) inside
      ],
    )

-- at the end the last bytes are a part of the text
pub last_step : (text rest last : List ℕ) → length rest ≤ length text → TestedTo text (length text - length rest) → length rest < 17 → 17 ≤ length text → last ≡ drop (length text - 17) text → GoesOn last → GoesOn text
last_step text rest last within tested few many is on k inside =
    let whole : last ≡ take 17 (drop (length text - 17) text) = is ∙ sym (take_all 17 (drop (length text - 17) text) (omega (arith, many, length-drop (length text - 17) text))) in
    let size : length last ≡ 17 = omega (arith, many, ap length is, length-drop (length text - 17) text) in
    elim (cases_Bool (ltb k (length text - 17))) [
      | inr late ↦
          let past = ltb-false k (length text - 17) late in
          let j = k - (length text - 17) in
          let there : length text - 17 + j ≡ k = omega (arith, past) in
          let after : length text - 17 + suc j ≡ suc k = omega (arith, past) in
          (λ i. may_follow (get_or text (sym there i) 0) (get_or text (sym after i) 0))
          ∙ part_follows text last (length text - 17) 17 whole on j (omega (arith, inside, past, many)) (omega (arith, inside, past, many, size))
      | inl early ↦ tested k (let before = ltb-true k (length text - 17) early in omega (arith, before, few, within, many)) inside
    ]
