-- Bytes between quotation marks, by the first that takes a backslash.
use Rattle.std.proofs.Common.{◌≡◌, ℕ, zero, suc, ◌+◌, ◌-◌, ◌*◌, ◌^◌, ◌%◌, ◌<◌, ◌≤◌, ◌==◌, ◌||◌, Bool, true, false, not, cond, List, [], ◌∷◌, ◌++◌, length, map, take, drop, get_or, refl, sym, subst, ap, ◌∙◌, append_assoc, arith, true≢false}
use Rattle.std.proofs.Math.Nat.{pos_of_ne-zero}
use Rattle.std.proofs.Math.Numerals.{one-add}
use Rattle.std.proofs.lemmas.List.{append-nil, take-append-drop, take-take, take_rest}
use Rattle.std.proofs.lemmas.Grind.{flat_map-append}
use Rattle.std.proofs.Math.Seq.{take-append-add}
use Rattle.std.proofs.lemmas.Simd.{trailing_mask_l}
use Rattle.std.specs.Int.{w64, trailing_zeros}
use Rattle.std.specs.List.{flat_map, prefix_len}
use Rattle.std.specs.Simd.Lanes.{mask_l, top}
use Rattle.cg_name.specs.Word.{is_special, quoted_byte, takes_backslash}
use Rattle.cg_name.proofs.Lanes.{equal_lanes, either_lanes, top_of_three, mask_fits, bit_none}

-- ---- some bytes at once

abbrev backslash_lanes : ℕ → List ℕ → List ℕ
backslash_lanes n xs = either_lanes (either_lanes (equal_lanes n xs 34) (equal_lanes n xs 92)) (equal_lanes n xs 10)

are_lanes : (xs : List ℕ) (n : ℕ) → length xs ≡ n → map (top 7) (backslash_lanes n xs) ≡ map takes_backslash xs
are_lanes [] n e = refl
are_lanes (x ∷ xs) zero e = absurd (omega arith)
are_lanes (x ∷ xs) (suc n) e = λ i. top_of_three (x == 34) (x == 92) (x == 10) i ∷ are_lanes xs n (omega arith) i

pub backslashes_of_lanes : (xs : List ℕ) (n : ℕ) → length xs ≡ n → n ≤ 64 → mask_l (map (top 7) (backslash_lanes n xs)) % 2 ^ 64 ≡ mask_l (map takes_backslash xs)
backslashes_of_lanes xs n e few = ap (λ ms. mask_l ms % 2 ^ 64) (are_lanes xs n e) ∙ mask_fits takes_backslash xs (omega (arith, e))

-- ---- bytes ahead of the first that takes one

abbrev stays : ℕ → Bool
stays b = not (takes_backslash b)

as_it_is : (b : ℕ) → takes_backslash b ≡ false → quoted_byte b ≡ b ∷ []
as_it_is b e = by_tests (is_special b) (b == 10) e
  where
    by_tests : (m k : Bool) → m || k ≡ false → cond k (92 ∷ 110 ∷ []) (cond m (92 ∷ b ∷ []) (b ∷ [])) ≡ b ∷ []
    by_tests false false h = refl
    by_tests false true h = absurd (true≢false h)
    by_tests true k h = absurd (true≢false h)

pub as_they_are : (xs : List ℕ) → mask_l (map takes_backslash xs) ≡ 0 → flat_map quoted_byte xs ≡ xs
as_they_are [] none = refl
as_they_are (x ∷ xs) none =
    let both : (takes_backslash x ≡ false) × (mask_l (map takes_backslash xs) ≡ 0) = bit_none (takes_backslash x) (mask_l (map takes_backslash xs)) none in
    (λ i. as_it_is x both.0 i ++ as_they_are xs both.1 i)

-- the byte at this place is the first that takes a backslash
pub record FirstBackslash (xs : List ℕ) (n : ℕ) : Type 0 where
  pub within : n < length xs
  pub takes : takes_backslash (get_or xs n 0) ≡ true
  pub bytes : flat_map quoted_byte (take (n + 1) xs) ≡ take n xs ++ quoted_byte (get_or xs n 0)

at_prefix : (xs : List ℕ) → (mask_l (map takes_backslash xs) ≡ 0 → ⊥) → FirstBackslash xs (prefix_len stays xs)
at_prefix [] some = absurd (some refl)
at_prefix (x ∷ xs) some = by_test (takes_backslash x) refl (at_prefix xs)
  where
    by_test : (k : Bool) → takes_backslash x ≡ k → ((mask_l (map takes_backslash xs) ≡ 0 → ⊥) → FirstBackslash xs (prefix_len stays xs)) → FirstBackslash (x ∷ xs) (prefix_len stays (x ∷ xs))
    by_test true e rest =
        let none : 0 ≡ prefix_len stays (x ∷ xs) = sym (ap (λ k. cond (not k) (1 + prefix_len stays xs) 0) e) in
        subst (FirstBackslash (x ∷ xs)) none (record { within = omega arith; takes = e; bytes = append-nil (quoted_byte x) })
    by_test false e rest =
        let n = prefix_len stays xs in
        let more : suc n ≡ prefix_len stays (x ∷ xs) = sym (ap (λ k. cond (not k) (1 + n) 0) e ∙ one-add n) in
        let there : FirstBackslash xs n = rest (λ none. some (ap (λ k. cond k 1 0 + 2 * mask_l (map takes_backslash xs)) e ∙ omega (arith, none))) in
        subst (FirstBackslash (x ∷ xs)) more (record {
          within = omega (arith, there.within);
          takes = there.takes;
          bytes = ap (λ k. flat_map quoted_byte (take k (x ∷ xs))) (let same : suc n + 1 ≡ suc (n + 1) = omega arith in same) ∙ (λ i. as_it_is x e i ++ there.bytes i);
        })

pub first_backslash : (xs : List ℕ) (m : ℕ) → length xs ≤ 64 → m ≡ mask_l (map takes_backslash xs) → (m ≡ 0 → ⊥) → FirstBackslash xs (trailing_zeros w64 m)
first_backslash xs m few e some =
    let there : FirstBackslash xs (prefix_len stays xs) = at_prefix xs (λ none. some (e ∙ none)) in
    let filled : 0 < m = pos_of_ne-zero some in
    subst (FirstBackslash xs) (sym (ap (trailing_zeros w64) e ∙ trailing_mask_l takes_backslash 64 xs few (subst (λ n. 0 < n) e filled))) there

-- a block that is appended, what stands in it from there on taken back, and the byte put there with its backslash
pub taken_back : (old block all short new : List ℕ) (start n : ℕ) → FirstBackslash block n → start ≡ length old → all ≡ old ++ block → short ≡ take (start + n) all → new ≡ short ++ quoted_byte (get_or block n 0) → new ≡ old ++ flat_map quoted_byte (take (n + 1) block)
taken_back old block all short new start n first at whole cut put =
    let kept : short ≡ old ++ take n block = cut ∙ (λ i. take (at i + n) (whole i)) ∙ take-append-add old block n in
    put ∙ ap (λ bs. bs ++ quoted_byte (get_or block n 0)) kept ∙ append_assoc old (take n block) (quoted_byte (get_or block n 0)) ∙ ap (λ bs. old ++ bs) (sym first.bytes)

-- what is left of a text, behind what is taken off its first bytes
pub behind_front : (text block out more whole : List ℕ) (k n : ℕ) → block ≡ take k text → n ≤ k → more ≡ out ++ flat_map quoted_byte (take n block) → out ++ flat_map quoted_byte text ≡ whole → more ++ flat_map quoted_byte (take (length text - n) (drop n text)) ≡ whole
behind_front text block out more whole k n first within pushed before =
    let part : take n block ≡ take n text = ap (take n) first ∙ take-take n k text within in
    let parts : flat_map quoted_byte (take n text) ++ flat_map quoted_byte (drop n text) ≡ flat_map quoted_byte text = sym (flat_map-append quoted_byte (take n text) (drop n text)) ∙ ap (flat_map quoted_byte) (take-append-drop n text) in
    (λ i. pushed i ++ flat_map quoted_byte (take_rest text n i)) ∙ append_assoc out (flat_map quoted_byte (take n block)) (flat_map quoted_byte (drop n text))
    ∙ ap (λ bs. out ++ (flat_map quoted_byte bs ++ flat_map quoted_byte (drop n text))) part ∙ ap (λ bs. out ++ bs) parts ∙ before
