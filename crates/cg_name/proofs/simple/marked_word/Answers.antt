-- Each byte of the word may stand behind the one before it, the first behind none.
use Rattle.std.proofs.Common.{◌≡◌, ℕ, zero, suc, ◌+◌, ◌-◌, ◌*◌, ◌%◌, ◌^◌, ◌<◌, ◌≤◌, ◌==◌, false, cond, List, [], ◌∷◌, ◌++◌, length, map, take, get_or, replicate, refl, sym, ap, ◌∙◌, arith, length-append}
use Rattle.std.specs.List.{range_with_len}
use Rattle.std.specs.Simd.Lanes.{mask_l, pick_l, sel_l, top}
use Rattle.std.proofs.lemmas.Bool.{ne_eqb}
use Rattle.std.proofs.lemmas.List.{get_or_append_left, get_or-take, length-replicate, length-take-le, map-append}
use Rattle.std.proofs.lemmas.Simd.{pick_l-range_with_len}
use Rattle.cg_name.specs.Simple.{is_slash, may_follow, misplaced, GoesOn}
use Rattle.cg_name.specs.Pieces.{marked}
use Rattle.cg_name.proofs.Lanes.{equal_lanes, top_lane}
use Rattle.cg_name.proofs.SimpleLanes.{none_misplaced, none_shifted}
use Rattle.cg_name.proofs.SimpleWords.{rest_simple}
use Rattle.cg_name.proofs.simple.marked_word.Goals as goal

-- the lanes with zero bytes for slashes
sel_marked : (bs : List ℕ) (n : ℕ) → length bs ≡ n → sel_l (map (top 7) (equal_lanes n bs 47)) (replicate n 0) bs ≡ map marked bs
sel_marked [] n e = refl
sel_marked (b ∷ bs) zero e = absurd (omega (arith, e))
sel_marked (b ∷ bs) (suc n) e = λ i. cond (top_lane (b == 47) i) 0 b ∷ sel_marked bs n (omega (arith, e)) i

map_zeros : (n : ℕ) → map marked (replicate n 0) ≡ replicate n 0
map_zeros zero = refl
map_zeros (suc n) = ap (λ z. 0 ∷ z) (map_zeros n)

-- the byte before each, and a zero byte before the first
shifted_lanes : (bs : List ℕ) → length bs ≡ 16 → pick_l 0 (replicate 16 0 ++ bs) (range_with_len 15 16) ≡ 0 ∷ take 15 bs
shifted_lanes bs e = pick_l-range_with_len 0 (replicate 16 0 ++ bs) 15 16 (omega (arith, e, length-append (replicate 16 0) bs, length-replicate {A = ℕ} 16 0))

module _ (word bytes : List ℕ) (few : length word ≤ 12) (is : bytes ≡ word ++ replicate (16 - length word) 0) where
  long : length bytes ≡ 16
  long = omega (arith, few, ap length is, length-append word (replicate (16 - length word) 0), length-replicate {A = ℕ} (16 - length word) 0)

  byte_at : (k : ℕ) → k < length word → get_or bytes k 0 ≡ get_or word k 0
  byte_at k low = ap (λ bs. get_or bs k 0) is ∙ get_or_append_left word (replicate (16 - length word) 0) 0 k low

  before_at : (k : ℕ) → k < length word → get_or (0 ∷ take 15 bytes) k 0 ≡ get_or (0 ∷ word) k 0
  before_at zero low = refl
  before_at (suc k) low = get_or-take 15 bytes k 0 (omega (arith, low, few)) ∙ byte_at k (omega (arith, low))

  goes_on : mask_l (misplaced bytes (0 ∷ take 15 bytes)) % 2 ^ length word ≡ 0 → GoesOn (0 ∷ word)
  goes_on none k low =
      let within : k < length word = omega (arith, low) in
      (λ i. may_follow (sym (before_at k within) i) (sym (byte_at k within) i))
      ∙ none_misplaced bytes (0 ∷ take 15 bytes) (length word) k within (omega (arith, few, long)) (omega (arith, long, length-take-le 15 bytes (omega (arith, long)))) none

  is_text : map marked bytes ≡ map marked word ++ replicate (16 - length word) 0
  is_text = ap (map marked) is ∙ map-append marked word (replicate (16 - length word) 0) ∙ ap (λ z. map marked word ++ z) (map_zeros (16 - length word))

pub returns : goal.returns
returns c =
    let word = c.args.word.now in
    let bytes = c.padded-bytes.result in
    let few = c.requires.few in
    let whole = long word bytes few c.padded-bytes.ensures in
    let mask : c.misplaced_in.result ≡ mask_l (misplaced bytes (0 ∷ take 15 bytes)) = c.misplaced_in.ensures ∙ ap (λ ps. mask_l (misplaced bytes ps)) (shifted_lanes bytes whole) in
    let bits : length word + (64 - length word) ≡ 64 = omega (arith, few) in
    let shifted : c.misplaced_in.result * 2 ^ (64 - length word) % 2 ^ (length word + (64 - length word)) ≡ 0 = ap (λ k. c.misplaced_in.result * 2 ^ (64 - length word) % 2 ^ k) bits ∙ omega (arith, c.if-misplaced_in-word-ne0.false) in
    let none : mask_l (misplaced bytes (0 ∷ take 15 bytes)) % 2 ^ length word ≡ 0 = ap (λ m. m % 2 ^ length word) (sym mask) ∙ none_shifted c.misplaced_in.result (length word) (64 - length word) shifted in
    let on = goes_on word bytes few c.padded-bytes.ensures none in
    let end : length word ≡ suc (length word - 1) = omega (arith, c.requires.some) in
    let last : is_slash (get_or (0 ∷ word) (length word) 0) ≡ false = ap (λ k. is_slash (get_or (0 ∷ word) k 0)) end ∙ ne_eqb (get_or word (length word - 1) 0) 47 c.if-word-eq47.false in
    (rest_simple 0 word on last, sel_marked bytes 16 whole ∙ is_text word bytes few c.padded-bytes.ensures)
