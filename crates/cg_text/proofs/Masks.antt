-- The bits of a line's bytes as a number, by those of its parts, and where its words end.
use Rattle.std.proofs.Common.{◌≡◌, ℕ, zero, suc, ◌+◌, ◌-◌, ◌*◌, ◌/◌, ◌%◌, ◌^◌, ◌<◌, ◌≤◌, ◌==◌, ◌||◌, ◌&&◌, Bool, true, false, not, subst, cond, leb, List, [], ◌∷◌, ◌++◌, map, length, take, drop, replicate, bit_and, bit_or, refl, ap, sym, ◌∙◌, append_assoc, arith, pow_mono, length-append, length-drop}
use Rattle.std.specs.Int.Bits.{or_zero_r}
use Rattle.std.specs.Array.{IsFirstChunk, IsWholeChunk}
use Rattle.std.specs.List.{list_all, range_with_len}
use Rattle.std.specs.Simd.Lanes.{zip2, mask_l, pick_l, top}
use Rattle.std.proofs.Math.Nat.{pow-succ'}
use Rattle.std.proofs.lemmas.Bool.{and_parts}
use Rattle.std.proofs.lemmas.List.{length-map, length-take-le, map-append, take-map, take-append-drop, take-append-le}
use Rattle.std.proofs.lemmas.List.Folds.{list_all-append}
use Rattle.std.proofs.lemmas.Nat.{and_mask, le_or_l, le_or_r, mod_low, one_shl, or_block, or_shifted, pow_pos, shl_whole, shr_high}
use Rattle.std.proofs.lemmas.Simd.{mask_l-lt, pick_l_whole}
use Rattle.cg_name.specs.Word.{is_blank}
use Rattle.cg_name.proofs.Lanes.{equal_lanes, either_lanes, top_of_two, top_of_three, mask_fits, bit_none}
use Rattle.cg_text.specs.WordEnds.{is_unusual, is_usual, word_ends}

-- ---- some bytes at once

-- the lanes of n bytes where one is a blank, and where one is unusual
abbrev blank_lanes : ℕ → List ℕ → List ℕ
blank_lanes n xs = either_lanes (equal_lanes n xs 32) (equal_lanes n xs 9)

abbrev unusual_lanes : ℕ → List ℕ → List ℕ
unusual_lanes n xs = either_lanes (either_lanes (equal_lanes n xs 34) (equal_lanes n xs 92)) (zip2 (λ x y. cond (leb x y) 255 0) (replicate n 128) xs)

blanks_are_lanes : (xs : List ℕ) (n : ℕ) → length xs ≡ n → map (top 7) (blank_lanes n xs) ≡ map is_blank xs
blanks_are_lanes [] n e = refl
blanks_are_lanes (x ∷ xs) zero e = absurd (omega arith)
blanks_are_lanes (x ∷ xs) (suc n) e = λ i. top_of_two (x == 32) (x == 9) i ∷ blanks_are_lanes xs n (omega arith) i

unusual_are_lanes : (xs : List ℕ) (n : ℕ) → length xs ≡ n → map (top 7) (unusual_lanes n xs) ≡ map is_unusual xs
unusual_are_lanes [] n e = refl
unusual_are_lanes (x ∷ xs) zero e = absurd (omega arith)
unusual_are_lanes (x ∷ xs) (suc n) e = λ i. top_of_three (x == 34) (x == 92) (leb 128 x) i ∷ unusual_are_lanes xs n (omega arith) i

pub blanks_of_lanes : (xs : List ℕ) (n : ℕ) → length xs ≡ n → n ≤ 64 → mask_l (map (top 7) (blank_lanes n xs)) % 2 ^ 64 ≡ mask_l (map is_blank xs)
blanks_of_lanes xs n e few = ap (λ ms. mask_l ms % 2 ^ 64) (blanks_are_lanes xs n e) ∙ mask_fits is_blank xs (omega (arith, e))

pub unusual_of_lanes : (xs : List ℕ) (n : ℕ) → length xs ≡ n → n ≤ 64 → mask_l (map (top 7) (unusual_lanes n xs)) % 2 ^ 64 ≡ mask_l (map is_unusual xs)
unusual_of_lanes xs n e few = ap (λ ms. mask_l ms % 2 ^ 64) (unusual_are_lanes xs n e) ∙ mask_fits is_unusual xs (omega (arith, e))

-- ---- masks of parts

mask_l-append : (ms ns : List Bool) → mask_l (ms ++ ns) ≡ mask_l ns * 2 ^ length ms + mask_l ms
mask_l-append [] ns = omega arith
mask_l-append (m ∷ ms) ns =
    let rest : mask_l (ms ++ ns) ≡ mask_l ns * 2 ^ length ms + mask_l ms = mask_l-append ms ns in
    let power : 2 ^ suc (length ms) ≡ 2 * 2 ^ length ms = pow-succ' 2 (length ms) in
    let doubled : mask_l ns * 2 ^ suc (length ms) ≡ mask_l ns * (2 * 2 ^ length ms) = ap (λ n. mask_l ns * n) power in
    omega (arith, rest, doubled)

or_bits : (l m : Bool) → bit_or (cond l 1 0) (cond m 1 0) ≡ cond (l || m) 1 0
or_bits true true = refl
or_bits true false = refl
or_bits false true = refl
or_bits false false = refl

bit_lt : (m : Bool) → cond m 1 0 < 2 ^ 1
bit_lt true = omega arith
bit_lt false = omega arith

or_first : (l m : Bool) (a b : ℕ) → bit_or (cond l 1 0 + 2 * a) (cond m 1 0 + 2 * b) ≡ cond (l || m) 1 0 + 2 * bit_or a b
or_first l m a b =
    let left : cond l 1 0 + 2 * a ≡ a * 2 ^ 1 + cond l 1 0 = omega arith in
    let right : cond m 1 0 + 2 * b ≡ b * 2 ^ 1 + cond m 1 0 = omega arith in
    (λ i. bit_or (left i) (right i)) ∙ or_block 1 a b (cond l 1 0) (cond m 1 0) (bit_lt l) (bit_lt m) ∙ omega (arith, or_bits l m)

or_same : (m : Bool) → m || m ≡ m
or_same true = refl
or_same false = refl

-- bits that stand in both
or_front : (ms : List Bool) (k : ℕ) → bit_or (mask_l ms) (mask_l (take k ms)) ≡ mask_l ms
or_front [] zero = or_zero_r 0
or_front [] (suc k) = or_zero_r 0
or_front (m ∷ ms) zero = or_zero_r (mask_l (m ∷ ms))
or_front (m ∷ ms) (suc k) = or_first m m (mask_l ms) (mask_l (take k ms)) ∙ (λ i. cond (or_same m i) 1 0 + 2 * or_front ms k i)

or_overlapping : (ms ns : List Bool) (k : ℕ) → length ms ≤ k → bit_or (mask_l ns * 2 ^ length ms) (mask_l (take k (ms ++ ns))) ≡ mask_l (ms ++ ns)
or_overlapping [] ns k h = ap (λ a. bit_or a (mask_l (take k ns))) (let e : mask_l ns * 2 ^ 0 ≡ mask_l ns = omega arith in e) ∙ or_front ns k
or_overlapping (m ∷ ms) ns zero h = absurd (omega (arith, h))
or_overlapping (m ∷ ms) ns (suc k) h =
    let part = mask_l ns * 2 ^ length ms in
    let doubled : mask_l ns * 2 ^ suc (length ms) ≡ mask_l ns * (2 * 2 ^ length ms) = ap (λ n. mask_l ns * n) (pow-succ' 2 (length ms)) in
    let even : mask_l ns * 2 ^ suc (length ms) ≡ cond false 1 0 + 2 * part = omega (arith, doubled) in
    ap (λ a. bit_or a (mask_l (m ∷ take k (ms ++ ns)))) even ∙ or_first false m part (mask_l (take k (ms ++ ns))) ∙ ap (λ a. cond m 1 0 + 2 * a) (or_overlapping ms ns k (omega (arith, h)))

-- ---- where words end

word_ends-append : (xs ys : List ℕ) → word_ends (xs ++ ys) ≡ word_ends ys * 2 ^ length xs + mask_l (map is_blank xs)
word_ends-append xs ys =
    let rest = map is_blank ys ++ true ∷ [] in
    ap mask_l (ap (λ ms. ms ++ true ∷ []) (map-append is_blank xs ys) ∙ append_assoc (map is_blank xs) (map is_blank ys) (true ∷ []))
    ∙ mask_l-append (map is_blank xs) rest ∙ ap (λ n. mask_l rest * 2 ^ n + mask_l (map is_blank xs)) (length-map xs is_blank)

-- the end of the line behind its blanks
word_ends_are : (xs : List ℕ) → word_ends xs ≡ 1 * 2 ^ length xs + mask_l (map is_blank xs)
word_ends_are xs = mask_l-append (map is_blank xs) (true ∷ []) ∙ ap (λ n. 1 * 2 ^ n + mask_l (map is_blank xs)) (length-map xs is_blank)

pub word_ends-lt : (xs : List ℕ) (k : ℕ) → length xs < k → word_ends xs < 2 ^ k
word_ends-lt xs k h =
    let bits = map is_blank xs ++ true ∷ [] in
    let few : length bits ≤ k = omega (arith, length-append (map is_blank xs) (true ∷ []), length-map xs is_blank) in
    omega (arith, mask_l-lt bits, pow_mono few)

pub word_ends-pos : (xs : List ℕ) → 0 < word_ends xs
word_ends-pos xs = omega (arith, word_ends_are xs, pow_pos (length xs))

blanks_lt : (xs : List ℕ) (k : ℕ) → length xs ≡ k → mask_l (map is_blank xs) < 2 ^ k
blanks_lt xs k e = subst (λ n. mask_l (map is_blank xs) < 2 ^ n) (length-map xs is_blank ∙ e) (mask_l-lt (map is_blank xs))

-- sixteen bytes more at the front
pub ends_more : (part rest : List ℕ) (n : ℕ) → length part ≡ 16 → length rest ≤ 47 → n ≡ word_ends rest → bit_or (n * 2 ^ 16 % 2 ^ 64) (mask_l (map is_blank part)) ≡ word_ends (part ++ rest)
ends_more part rest n whole short e =
    let blanks = mask_l (map is_blank part) in
    ap (λ m. bit_or (m * 2 ^ 16 % 2 ^ 64) blanks) e
    ∙ ap (λ m. bit_or m blanks) (shl_whole (word_ends rest) 48 16 64 (word_ends-lt rest 48 (omega (arith, short))) (omega arith))
    ∙ or_shifted (word_ends rest) 16 blanks (blanks_lt part 16 whole)
    ∙ ap (λ k. word_ends rest * 2 ^ k + blanks) (sym whole) ∙ sym (word_ends-append part rest)

-- the bytes at the front, of which some stand behind them too
pub ends_joined : (line front rest : List ℕ) (n k : ℕ) → line ≡ front ++ rest → length line ≤ 63 → length front ≤ k → k ≤ length line → n ≡ word_ends rest → bit_or (n * 2 ^ length front % 2 ^ 64) (mask_l (map is_blank (take k line))) ≡ word_ends line
ends_joined line front rest n k parts short less more e =
    let long : length front + length rest ≡ length line = sym (length-append front rest) ∙ ap length (sym parts) in
    let within : length rest + 1 + length front ≤ 64 = omega (arith, long, short) in
    let bits = map is_blank rest ++ true ∷ [] in
    let whole : map is_blank line ++ true ∷ [] ≡ map is_blank front ++ bits =
    ap (λ bs. map is_blank bs ++ true ∷ []) parts ∙ ap (λ ms. ms ++ true ∷ []) (map-append is_blank front rest) ∙ append_assoc (map is_blank front) (map is_blank rest) (true ∷ []) in
    let first : map is_blank (take k line) ≡ take k (map is_blank front ++ bits) =
    sym (take-map is_blank k line) ∙ sym (take-append-le k (map is_blank line) (true ∷ []) (omega (arith, more, length-map line is_blank))) ∙ ap (take k) whole in
    ap (λ m. bit_or (m * 2 ^ length front % 2 ^ 64) (mask_l (map is_blank (take k line)))) e
    ∙ (λ i. bit_or (shl_whole (word_ends rest) (length rest + 1) (length front) 64 (word_ends-lt rest (length rest + 1) (omega arith)) within i) (mask_l (first i)))
    ∙ ap (λ j. bit_or (mask_l bits * 2 ^ j) (mask_l (take k (map is_blank front ++ bits)))) (sym (length-map front is_blank))
    ∙ or_overlapping (map is_blank front) bits k (omega (arith, less, length-map front is_blank)) ∙ ap mask_l (sym whole)

-- the first bytes, and behind these the last ones as the end of the line
pub ends_of_halves : (line : List ℕ) (k blanks : ℕ) → k ≤ length line → length line ≤ 2 * k → k ≤ 16 → blanks ≡ mask_l (map is_blank (take k line ++ drop (length line - k) line)) → bit_or (bit_or (1 * 2 ^ k % 2 ^ 64) (blanks / 2 ^ k) * 2 ^ (length line - k) % 2 ^ 64) (bit_and blanks (1 * 2 ^ k % 2 ^ 64 - 1)) ≡ word_ends line
ends_of_halves line k blanks some few short e =
    let before = length line - k in
    let first = take k line in
    let last = drop before line in
    let front = take before line in
    let high = mask_l (map is_blank last) in
    let low = mask_l (map is_blank first) in
    let one : 1 * 2 ^ k % 2 ^ 64 ≡ 2 ^ k = one_shl k 64 (omega (arith, short)) in
    let long : length first ≡ k = length-take-le k line some in
    let parts : blanks ≡ high * 2 ^ k + low =
    e ∙ ap mask_l (map-append is_blank first last) ∙ mask_l-append (map is_blank first) (map is_blank last) ∙ ap (λ n. high * 2 ^ n + low) (length-map first is_blank ∙ long) in
    let low_fits : low < 2 ^ k = blanks_lt first k long in
    let behind : length last ≡ k = omega (arith, length-drop before line, some) in
    let tail : bit_or (1 * 2 ^ k % 2 ^ 64) (blanks / 2 ^ k) ≡ word_ends last =
    (λ i. bit_or (one_shl k 64 (omega (arith, short)) i) ((ap (λ b. b / 2 ^ k) parts ∙ shr_high high k low low_fits) i))
    ∙ ap (λ m. bit_or m high) (let same : 2 ^ k ≡ 1 * 2 ^ k = omega arith in same) ∙ or_shifted 1 k high (blanks_lt last k behind)
    ∙ ap (λ n. 1 * 2 ^ n + high) (sym behind) ∙ sym (word_ends_are last) in
    let head : bit_and blanks (1 * 2 ^ k % 2 ^ 64 - 1) ≡ low =
    (λ i. bit_and (parts i) (one i - 1)) ∙ and_mask (high * 2 ^ k + low) k ∙ mod_low high k low low_fits in
    let ahead : length front ≡ before = length-take-le before line (omega arith) in
    ap (λ m. bit_or (bit_or (1 * 2 ^ k % 2 ^ 64) (blanks / 2 ^ k) * 2 ^ before % 2 ^ 64) m) head
    ∙ ap (λ j. bit_or (bit_or (1 * 2 ^ k % 2 ^ 64) (blanks / 2 ^ k) * 2 ^ j % 2 ^ 64) low) (sym ahead)
    ∙ ends_joined line front last (bit_or (1 * 2 ^ k % 2 ^ 64) (blanks / 2 ^ k)) k (sym (take-append-drop before line)) (omega (arith, few, short)) (omega (arith, ahead, few)) some tail

-- ---- lines without an unusual byte

pub none_unusual : (xs : List ℕ) → mask_l (map is_unusual xs) ≡ 0 → list_all is_usual xs ≡ true
none_unusual [] e = refl
none_unusual (x ∷ xs) e =
    let none : (is_unusual x ≡ false) × (mask_l (map is_unusual xs) ≡ 0) = bit_none (is_unusual x) (mask_l (map is_unusual xs)) e in
    (λ i. not (none.0 i) && none_unusual xs none.1 i)

pub usual_joined : (front rest : List ℕ) (k : ℕ) → length front ≤ k → list_all is_usual (take k (front ++ rest)) ≡ true → list_all is_usual rest ≡ true → list_all is_usual (front ++ rest) ≡ true
usual_joined [] rest k less first h = h
usual_joined (x ∷ front) rest zero less first h = absurd (omega (arith, less))
usual_joined (x ∷ front) rest (suc k) less first h =
    let both : (is_usual x ≡ true) × (list_all is_usual (take k (front ++ rest)) ≡ true) = and_parts (is_usual x) (list_all is_usual (take k (front ++ rest))) first in
    (λ i. both.0 i && usual_joined front rest k (omega (arith, less)) both.1 h i)

-- ---- the first half and the last of a line, which may overlap

pub halves : (line first last : List ℕ) (k : ℕ) → IsFirstChunk line first k → (k ≤ length line) × IsWholeChunk (drop (length line - k) line) last k → pick_l 0 (first ++ last) (range_with_len 0 (2 * k)) ≡ take k line ++ drop (length line - k) line
halves line first last k h l =
    let long : length (first ++ last) ≡ 2 * k = omega (arith, length-append first last, ap length h.same, length-take-le k line h.enough, ap length l.1.same, l.1.long) in
    pick_l_whole 0 (first ++ last) (2 * k) long ∙ (λ i. h.same i ++ l.1.same i)

pub usual_halves : (line : List ℕ) (k unusual : ℕ) → k ≤ length line → length line ≤ 2 * k → unusual ≡ mask_l (map is_unusual (take k line ++ drop (length line - k) line)) → unusual ≡ 0 → list_all is_usual line ≡ true
usual_halves line k unusual some few e none =
    let before = length line - k in
    let parts : take before line ++ drop before line ≡ line = take-append-drop before line in
    let both : (list_all is_usual (take k line) ≡ true) × (list_all is_usual (drop before line) ≡ true) =
    and_parts (list_all is_usual (take k line)) (list_all is_usual (drop before line))
    (sym (list_all-append is_usual (take k line) (drop before line)) ∙ none_unusual (take k line ++ drop before line) (sym e ∙ none)) in
    ap (list_all is_usual) (sym parts)
    ∙ usual_joined (take before line) (drop before line) k (omega (arith, length-take-le before line (omega arith), few)) (ap (λ bs. list_all is_usual (take k bs)) parts ∙ both.0) both.1

-- ---- from the last bytes to the first

-- what stands behind the rest of a line has these ends, and no unusual byte where `unusual` is 0, and neither have the first sixteen bytes
pub record IsAheadOf (line rest : List ℕ) (ends unusual : ℕ) : Type 0 where
  pub behind : List ℕ
  pub parts : line ≡ rest ++ behind
  pub value : ends ≡ word_ends behind
  pub usual : unusual ≡ 0 → list_all is_usual behind ≡ true
  pub first_usual : unusual ≡ 0 → list_all is_usual (take 16 line) ≡ true

pub split_parts : (whole front last : List ℕ) → (front ≡ take (length whole - 16) whole) × (last ≡ drop (length whole - 16) whole) × (length front + 16 ≡ length whole) → (front ++ last ≡ whole) × (length last ≡ 16)
split_parts whole front last cut =
    let parts : front ++ last ≡ whole = (λ i. cut.0 i ++ cut.1 i) ∙ take-append-drop (length whole - 16) whole in
    (parts, omega (arith, ap length parts, length-append front last, cut.2))

or_none : (a b : ℕ) → bit_or a b ≡ 0 → (a ≡ 0) × (b ≡ 0)
or_none a b e = (omega (arith, e, le_or_l a b), omega (arith, e, le_or_r a b))

pub first_part : (line front last : List ℕ) (first : List ℕ) (ends unusual : ℕ) → front ++ last ≡ line → length last ≡ 16 → first ≡ take 16 line → ends ≡ bit_or (1 * 2 ^ 16 % 2 ^ 64) (mask_l (map is_blank last)) → unusual ≡ bit_or (mask_l (map is_unusual first)) (mask_l (map is_unusual last)) → IsAheadOf line front ends unusual
first_part line front last first ends unusual parts whole same value e = record {
  behind = last;
  parts = sym parts;
  value = value ∙ or_shifted 1 16 (mask_l (map is_blank last)) (blanks_lt last 16 whole) ∙ ap (λ k. 1 * 2 ^ k + mask_l (map is_blank last)) (sym whole) ∙ sym (word_ends_are last);
  usual = λ none. none_unusual last (or_none (mask_l (map is_unusual first)) (mask_l (map is_unusual last)) (sym e ∙ none)).1;
  first_usual = λ none. ap (list_all is_usual) (sym same) ∙ none_unusual first (or_none (mask_l (map is_unusual first)) (mask_l (map is_unusual last)) (sym e ∙ none)).0;
}

pub more_parts : (line rest front last : List ℕ) (ends unusual more_ends more_unusual : ℕ) → IsAheadOf line rest ends unusual → front ++ last ≡ rest → length last ≡ 16 → length line ≤ 63 → more_ends ≡ bit_or (ends * 2 ^ 16 % 2 ^ 64) (mask_l (map is_blank last)) → more_unusual ≡ bit_or unusual (mask_l (map is_unusual last)) → IsAheadOf line front more_ends more_unusual
more_parts line rest front last ends unusual more_ends more_unusual h parts whole short value e =
    let long : length front + 16 + length h.behind ≡ length line = omega (arith, whole, ap length parts, length-append front last, ap length h.parts, length-append rest h.behind) in
    record {
      behind = last ++ h.behind;
      parts = h.parts ∙ ap (λ bs. bs ++ h.behind) (sym parts) ∙ append_assoc front last h.behind;
      value = value ∙ ends_more last h.behind ends whole (omega (arith, long, short)) h.value;
      usual = λ none.
          let both : (unusual ≡ 0) × (mask_l (map is_unusual last) ≡ 0) = or_none unusual (mask_l (map is_unusual last)) (sym e ∙ none) in
          list_all-append is_usual last h.behind ∙ (λ i. none_unusual last both.1 i && h.usual both.0 i);
      first_usual = λ none. h.first_usual (or_none unusual (mask_l (map is_unusual last)) (sym e ∙ none)).0;
    }

pub all_parts : (line rest first : List ℕ) (ends unusual : ℕ) → IsAheadOf line rest ends unusual → first ≡ take 16 line → length rest < 16 → 16 ≤ length line → length line ≤ 63 → bit_or (ends * 2 ^ length rest % 2 ^ 64) (mask_l (map is_blank first)) ≡ word_ends line
all_parts line rest first ends unusual h same few long short =
    ap (λ bs. bit_or (ends * 2 ^ length rest % 2 ^ 64) (mask_l (map is_blank bs))) same
    ∙ ends_joined line rest h.behind ends 16 h.parts short (omega (arith, few)) long h.value

pub all_usual : (line rest : List ℕ) (ends unusual : ℕ) → IsAheadOf line rest ends unusual → length rest < 16 → unusual ≡ 0 → list_all is_usual line ≡ true
all_usual line rest ends unusual h few none =
    ap (list_all is_usual) h.parts
    ∙ usual_joined rest h.behind 16 (omega (arith, few)) (ap (λ bs. list_all is_usual (take 16 bs)) (sym h.parts) ∙ h.first_usual none) (h.usual none)
