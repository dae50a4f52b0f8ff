-- Digits that are taken one by one from the front of a text.
use Rattle.std.proofs.Common.{◌≡◌, ℕ, ◌+◌, ◌*◌, ◌<◌, ◌⊎◌, inl, inr, List, [], ◌∷◌, ◌++◌, sym, ap, ◌∙◌, append_assoc, arith, length-append}
use Rattle.std.specs.Char.{digit_value}
use Rattle.std.specs.Str.Parse.{IsNumeral, digits_value}
use Rattle.std.proofs.lemmas.Int.Digits.{digits_push, digits_value_push}
use Rattle.std.proofs.lemmas.Str.{digit_value_digit}

-- a text begins with digits of this value, and goes on so
abbrev pub BeginsWithDigits : List ℕ → ℕ → List ℕ → Type 0
BeginsWithDigits text n rest = (digits : List ℕ) × (text ≡ digits ++ rest) × IsNumeral 10 digits × (digits_value 10 digits ≡ n)

value : (d : ℕ) → d < 10 → digit_value (48 + d) ≡ d
value d l = omega (arith, digit_value_digit (48 + d) (omega arith, omega arith))

pub one_digit : (text : List ℕ) (d : ℕ) (rest : List ℕ) → d < 10 → text ≡ (48 + d) ∷ rest → BeginsWithDigits text d rest
one_digit text d rest l e =
    let v = value d l in
    ((48 + d) ∷ [], e, (omega arith, (omega (arith, v), tt)), omega (arith, v))

-- a digit more, where the rest begins with one
pub next_digit : (text : List ℕ) (n : ℕ) (rest : List ℕ) (m : ℕ) (others : List ℕ) → BeginsWithDigits text n rest
    → ((rest ≡ others) × (m ≡ n)) ⊎ ((d : ℕ) × (d < 10) × (rest ≡ (48 + d) ∷ others) × (m ≡ n * 10 + d)) → BeginsWithDigits text m others
next_digit text n rest m others h (inl same) = (h.0, h.1 ∙ ap (λ bs. h.0 ++ bs) same.0, h.2, h.3 ∙ sym same.1)
next_digit text n rest m others h (inr more) =
    let d = more.0 in
    let v = value d more.1 in (
      h.0 ++ (48 + d) ∷ [],
      h.1 ∙ ap (λ bs. h.0 ++ bs) more.2 ∙ sym (append_assoc h.0 ((48 + d) ∷ []) others),
      (omega (arith, length-append h.0 ((48 + d) ∷ [])), digits_push 10 h.0 (48 + d) h.2.1 (omega (arith, v, more.1))),
      digits_value_push 10 h.0 (48 + d) ∙ (λ i. h.3 i * 10 + v i) ∙ sym more.3,
    )
