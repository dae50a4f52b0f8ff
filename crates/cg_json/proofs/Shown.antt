-- A text of JSON has no byte below 32.
use Rattle.std.proofs.Common.{◌≡◌, ℕ, zero, suc, ◌+◌, ◌/◌, ◌%◌, ◌==◌, ◌||◌, Bool, true, false, nat_le, nat_lt, List, [], ◌∷◌, ◌++◌, refl, sym, ap, ◌∙◌, inl, inr, arith, true≢false}
use Rattle.std.specs.List.{list_all}
use Rattle.std.specs.Char.{digit_char}
use Rattle.std.specs.Fmt.{digit_glyph, digits, digits_onto, decimal}
use Rattle.std.proofs.lemmas.Bool.{cases_eq, cond_both, le-leb, ltb-false, ne_eqb}
use Rattle.std.proofs.lemmas.List.Folds.{list_all-append}
use Rattle.json.specs.Json.{Json, Items, Members, no_items, item, no_members, member}
use Rattle.json.specs.Json as json
use Rattle.json.specs.Print.{escape, escape_byte, escape_letter}
use Rattle.cg_json.specs.Laws.{HasDecimals, ItemsHaveDecimals, FieldsHaveDecimals, TextsAreLines}
use Rattle.cg_json.specs.Text.{comma_behind, flag_text, json_text, items_text, fields_text, name_text, string_text}

abbrev IsShown : List ℕ → Type 0
IsShown l = list_all (nat_le 32) l ≡ true

both_shown : (a b : List ℕ) → IsShown a → IsShown b → IsShown (a ++ b)
both_shown a b h k = list_all-append (nat_le 32) a b ∙ rw h k

one_shown : (b : ℕ) → nat_le 32 b ≡ true → (l : List ℕ) → IsShown l → IsShown (b ∷ l)
one_shown b h l k = rw h k

-- ---- numbers

digit_shown : (n : ℕ) → nat_le 32 (digit_glyph false n) ≡ true
digit_shown n = cond_both (nat_lt n 10) (48 + n) (87 + n) (λ b. nat_le 32 b ≡ true) (λ _. le-leb 32 (48 + n) (omega arith)) (λ _. le-leb 32 (87 + n) (omega arith))

digits_shown : (k n : ℕ) (ds : List ℕ) → IsShown ds → IsShown (digits_onto k 10 false n ds)
digits_shown zero n ds h = h
digits_shown (suc k) n ds h =
    let last : IsShown (digit_glyph false (n % 10) ∷ ds) = one_shown (digit_glyph false (n % 10)) (digit_shown (n % 10)) ds h in
    cond_both (n / 10 == 0) (digit_glyph false (n % 10) ∷ ds) (digits_onto k 10 false (n / 10) (digit_glyph false (n % 10) ∷ ds)) IsShown
    (λ _. last)
    (λ _. digits_shown k (n / 10) (digit_glyph false (n % 10) ∷ ds) last)

number_shown : (n : ℕ) → IsShown (decimal n)
unfolding digits
number_shown n = digits_shown 64 n [] refl

-- ---- strings

special_shown : (x : ℕ) → ((x == 34) || (x == 92)) ≡ true → nat_le 32 x ≡ true
special_shown x h = elim (cases_eq x 34) [
  | inl e ↦ ap (nat_le 32) e
  | inr n ↦ elim (cases_eq x 92) [
    | inl e ↦ ap (nat_le 32) e
    | inr m ↦ absurd (true≢false (sym h ∙ rw (ne_eqb x 34 n, ne_eqb x 92 m) refl))
  ]
]

abbrev IsLetter : ℕ → Type 0
IsLetter l = nat_lt 0 l ≡ true → nat_le 32 l ≡ true

letter_shown : (x : ℕ) → IsLetter (escape_letter x)
letter_shown x =
    cond_both ((x == 34) || (x == 92)) x _ IsLetter
    (λ h _. special_shown x h)
    (λ _. cond_both (x == 8) 98 _ IsLetter (λ _ _. refl) (λ _. cond_both (x == 12) 102 _ IsLetter (λ _ _. refl) (λ _. cond_both (x == 10) 110 _ IsLetter (λ _ _. refl) (λ _. cond_both (x == 13) 114 _ IsLetter (λ _ _. refl) (λ _. cond_both (x == 9) 116 0 IsLetter (λ _ _. refl) (λ _ h. absurd (true≢false (sym h))))))))

hex_shown : (d : ℕ) → nat_le 32 (digit_char d) ≡ true
hex_shown d = cond_both (nat_lt d 10) (48 + d) (87 + d) (λ b. nat_le 32 b ≡ true) (λ _. le-leb 32 (48 + d) (omega arith)) (λ _. le-leb 32 (87 + d) (omega arith))

byte_shown : (x : ℕ) → IsShown (escape_byte x)
unfolding escape_byte
byte_shown x =
    cond_both (nat_lt 0 (escape_letter x)) (92 ∷ escape_letter x ∷ []) _ IsShown
    (λ some. one_shown (escape_letter x) (letter_shown x some) [] refl)
    (λ _. cond_both (nat_lt x 32) (92 ∷ 117 ∷ 48 ∷ 48 ∷ digit_char (x / 16) ∷ digit_char (x % 16) ∷ []) (x ∷ []) IsShown
    (λ _. one_shown (digit_char (x / 16)) (hex_shown (x / 16)) (digit_char (x % 16) ∷ []) (one_shown (digit_char (x % 16)) (hex_shown (x % 16)) [] refl))
    (λ great. one_shown x (le-leb 32 x (ltb-false x 32 great)) [] refl))

bytes_shown : (s : List ℕ) → IsShown (escape s)
bytes_shown [] = refl
bytes_shown (x ∷ s) = both_shown (escape_byte x) (escape s) (byte_shown x) (bytes_shown s)

quoted_shown : (s : List ℕ) → IsShown (string_text s)
unfolding string_text
quoted_shown s = both_shown (escape s) (34 ∷ []) (bytes_shown s) refl

-- ---- values

flag_shown : (b : Bool) → IsShown (flag_text b)
flag_shown true = refl
flag_shown false = refl

comma_shown : (b : Bool) → IsShown (comma_behind b)
comma_shown true = refl
comma_shown false = refl

name_shown : (b : Bool) (name : List ℕ) → IsShown (name_text b name)
unfolding name_text
name_shown b name = both_shown (comma_behind b) (string_text name ++ 58 ∷ []) (comma_shown b) (both_shown (string_text name) (58 ∷ []) (quoted_shown name) refl)

mutual
  value_shown : (j : Json) → HasDecimals j → IsShown (json_text j)
  value_shown json.null h = refl
  value_shown (json.boolean b) h = flag_shown b
  value_shown (json.number s) h = rw h.2 (number_shown h.0)
  value_shown (json.string s) h = quoted_shown s
  value_shown (json.array js) h = items_shown false js h
  value_shown (json.object ms) h = fields_shown false ms h

  items_shown : (b : Bool) (js : Items) → ItemsHaveDecimals js → IsShown (items_text b js)
  items_shown b no_items h = refl
  items_shown b (item j js) h = both_shown (comma_behind b) (json_text j ++ items_text true js) (comma_shown b) (both_shown (json_text j) (items_text true js) (value_shown j h.0) (items_shown true js h.1))

  fields_shown : (b : Bool) (ms : Members) → FieldsHaveDecimals ms → IsShown (fields_text b ms)
  fields_shown b no_members h = refl
  fields_shown b (member k j ms) h = both_shown (name_text b k) (json_text j ++ fields_text true ms) (name_shown b k) (both_shown (json_text j) (fields_text true ms) (value_shown j h.0) (fields_shown true ms h.1))

pub texts_are_lines : TextsAreLines
texts_are_lines = value_shown
