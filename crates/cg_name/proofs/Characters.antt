-- Characters as they stand between quotation marks: a special one behind a backslash, a newline as a backslash and an `n`, and
-- every other as it is, since all bytes of a character that isn't ASCII are above 127.
use Rattle.std.proofs.Common.{◌≡◌, ℕ, suc, ◌<◌, ◌≤◌, true, false, List, [], ◌∷◌, ◌++◌, length, get_or, inl, inr, refl, sym, ap₂, ◌∙◌, append-nil, arith}
use Rattle.std.specs.Char.{encode_utf8}
use Rattle.std.specs.List.{flat_map}
use Rattle.std.proofs.lemmas.Bool.{cases_lt, ne_eqb, true≢false}
use Rattle.std.proofs.lemmas.Str.{encode_ascii, inside_one}
use Rattle.cg_name.specs.Word.{is_special, quoted_byte}

unmarked : (b : ℕ) → (b ≡ 10 → ⊥) → is_special b ≡ false → quoted_byte b ≡ b ∷ []
unmarked b newline plain = rw (ne_eqb b 10 newline, plain) refl

ordinary : (b : ℕ) → 128 ≤ b → is_special b ≡ false
ordinary b high = rw (ne_eqb b 34 (λ e. omega arith), ne_eqb b 92 (λ e. omega arith)) refl

high_bytes : (bytes : List ℕ) → ((k : ℕ) → k < length bytes → 128 ≤ get_or bytes k 0) → flat_map quoted_byte bytes ≡ bytes
high_bytes [] high = refl
high_bytes (b ∷ bytes) high =
    let first : 128 ≤ b = high 0 (omega arith) in
    ap₂ (λ (x y : List ℕ). x ++ y) (unmarked b (λ e. omega arith) (ordinary b first)) (high_bytes bytes (λ k below. high (suc k) (omega arith)))

-- a character that is neither special nor a newline stands as it is
pub as_it_is : (c : ℕ) → (c ≡ 10 → ⊥) → is_special c ≡ false → flat_map quoted_byte (encode_utf8 c) ≡ encode_utf8 c
as_it_is c newline plain = elim (cases_lt c 128) [
  | inl small ↦ rw (encode_ascii c small) (append-nil (quoted_byte c) ∙ unmarked c newline plain)
  | inr big ↦ high_bytes (encode_utf8 c) (λ k below. elim (cases_lt (get_or (encode_utf8 c) k 0) 128) [
    | inl low ↦ absurd (omega (arith, inside_one c [] (encode_utf8 c) k (sym (append-nil _)) below low))
    | inr high ↦ high
  ])
]

special_below : (c : ℕ) → is_special c ≡ true → c < 128
special_below c special = elim (cases_lt c 128) [
  | inl small ↦ small
  | inr big ↦ absurd (true≢false (sym special ∙ ordinary c big))
]

-- a special one stands behind a backslash
pub behind_backslash : (c : ℕ) → (c ≡ 10 → ⊥) → is_special c ≡ true → flat_map quoted_byte (encode_utf8 c) ≡ encode_utf8 92 ++ encode_utf8 c
behind_backslash c newline special =
    let small : c < 128 = special_below c special in
    rw (encode_ascii c small, encode_ascii 92 (omega arith)) (append-nil (quoted_byte c) ∙ (rw (ne_eqb c 10 newline, special) refl))
