-- A text spells at most one value of each kind, and the texts of PIDs and limits spell them.
use Rattle.std.proofs.Common.{◌≡◌, ℕ, ◌≤◌, ◌-◌, false, List, [], ◌∷◌, ◌++◌, length, reverse, inl, refl, sym, ap, subst, ◌∙◌, arith}
use Rattle.std.specs.Fmt.{decimal}
use Rattle.std.specs.Str.Parse.{AllDigits, IsNumeral, digits_value}
use Rattle.std.proofs.lemmas.Bool.Decides.{nat_tests}
use Rattle.std.proofs.lemmas.Fmt.{decimal_is_IsNumeral}
use Rattle.std.proofs.lemmas.List.{reverse-reverse}
use Rattle.std.proofs.lemmas.Str.Parse.{digit_from_value, digit_at}
use Rattle.cg_digits.specs.WhiteSpace.{is_white_space, starts_white, trimmed, without_trailing_white_space}
use Rattle.cg_digits.proofs.Trimmed.{front_end, last_test}
use Rattle.cg_text.specs.Laws.{LimitIsSpelled, OneOps, PidIsSpelled}
use Rattle.cg_text.specs.Reading.{white_space_words, no_ops}
use Rattle.cg_text.specs.declared.limit.Limit.TheVariants.{Max, UpTo}
use Rattle.cg_text.proofs.Operations.{one_result}
use Rattle.cg_text.proofs.TrimmedLines.{trimmed_line}

pub one_ops : OneOps
one_ops text x y h k = one_result (white_space_words text) no_ops x y h k

-- ---- PIDs and limits

digit_is_no_blank : (b : ℕ) → 48 ≤ b → b ≤ 57 → is_white_space b ≡ false
digit_is_no_blank b l m = grind (arith, nat_tests)

no_blank_first : (ds : List ℕ) → AllDigits 10 ds → starts_white ds ≡ false
no_blank_first [] h = refl
no_blank_first (d ∷ ds) h = let r = digit_from_value d h.0 in digit_is_no_blank d r.0 r.1

last_digit : (d : ℕ) (ds : List ℕ) → AllDigits 10 (d ∷ ds) → starts_white (reverse (d ∷ ds)) ≡ false
last_digit d ds h = let r = digit_at (d ∷ ds) (length (d ∷ ds) - 1) h (omega arith) in last_test (d ∷ ds) (omega arith) ∙ digit_is_no_blank _ r.0 r.1

-- the digits of a line are the line, trimmed
line_of_digits : (ds : List ℕ) → IsNumeral 10 ds → trimmed (ds ++ 10 ∷ []) ≡ ds
line_of_digits [] h = absurd (omega (arith, h.0))
line_of_digits (d ∷ ds) h =
    trimmed_line (d ∷ ds)
    ∙ ap without_trailing_white_space (front_end (d ∷ ds) (no_blank_first (d ∷ ds) h.1))
    ∙ ap reverse (front_end (reverse (d ∷ ds)) (last_digit d ds h.1))
    ∙ reverse-reverse (d ∷ ds)

pub pid_is_spelled : PidIsSpelled
pid_is_spelled k low high =
    let numeral = decimal_is_IsNumeral k (omega arith) in
    let is : trimmed (decimal k ++ 10 ∷ []) ≡ decimal k = line_of_digits (decimal k) numeral.0 in
    (subst (IsNumeral 10) (sym is) numeral.0, ap (digits_value 10) is ∙ numeral.1, low, high)

pub limit_is_spelled : LimitIsSpelled
limit_is_spelled Max = inl refl
limit_is_spelled (UpTo most) =
    let numeral = decimal_is_IsNumeral most.number (omega (arith, most.in_range)) in
    let is : trimmed (decimal most.number ++ 10 ∷ []) ≡ decimal most.number = line_of_digits (decimal most.number) numeral.0 in
    (subst (IsNumeral 10) (sym is) numeral.0, ap (digits_value 10) is ∙ numeral.1)
