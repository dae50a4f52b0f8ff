-- Words of plain bytes, of which nothing is trimmed.
use Rattle.std.proofs.Common.{◌≡◌, ℕ, zero, suc, ◌-◌, ◌<◌, ◌≤◌, true, false, not, ◌==◌, ◌||◌, ◌&&◌, nat_le, List, [], ◌∷◌, length, get_or, refl, ap, ◌∙◌, arith}
use Rattle.std.specs.Cmp.Derive.{both_true}
use Rattle.std.specs.Fmt.{decimal}
use Rattle.std.specs.List.{AllByRecursion, list_all}
use Rattle.std.specs.Str.Parse.{AllDigits}
use Rattle.std.proofs.lemmas.Bool.{and_parts}
use Rattle.std.proofs.lemmas.Bool.Decides.{nat_tests}
use Rattle.std.proofs.lemmas.Fmt.{decimal_is_IsNumeral}
use Rattle.std.proofs.lemmas.Str.Parse.{digit_from_value}
use Rattle.cg_name.specs.Word.{is_special, is_plain_byte, FitsLine}
use Rattle.cg_digits.specs.WhiteSpace.{is_white_space, starts_white, trimmed, without_trailing_white_space}
use Rattle.cg_digits.proofs.Trimmed.{front_end, back_end, last_test}
use Rattle.cg_text.specs.Words.{Word}
use Rattle.cg_name.proofs.Written.{plain_fits}

-- a word with a byte, all of them plain
pub record IsPlainWord (w : Word) : Type 0 where
  pub some : 0 < length w
  pub plain : list_all is_plain_byte w ≡ true

pub plain_fit : (w : Word) → IsPlainWord w → FitsLine w
plain_fit w h = plain_fits w h.some h.plain

pub all_fit : (ws : List Word) → AllByRecursion IsPlainWord ws → AllByRecursion FitsLine ws
all_fit [] h = tt
all_fit (w ∷ ws) h = (plain_fit w h.0, all_fit ws h.1)

-- ---- numbers

digit_plain : (b : ℕ) → 48 ≤ b → b ≤ 57 → is_plain_byte b ≡ true
digit_plain b l h =
    let x : nat_le 33 b ≡ true = grind (arith, nat_tests) in
    let y : nat_le b 126 ≡ true = grind (arith, nat_tests) in
    let quote : (b == 34) ≡ false = grind (arith, nat_tests) in
    let backslash : (b == 92) ≡ false = grind (arith, nat_tests) in
    both_true (both_true x y) (λ i. not (quote i || backslash i))

digits_plain : (ds : List ℕ) → AllDigits 10 ds → list_all is_plain_byte ds ≡ true
digits_plain [] h = refl
digits_plain (d ∷ ds) h = let r = digit_from_value d h.0 in both_true (digit_plain d (omega arith) (omega arith)) (digits_plain ds h.1)

pub decimal_plain : (n : ℕ) → n < 2147483648 → IsPlainWord (decimal n)
decimal_plain n l = let h = decimal_is_IsNumeral n (omega arith) in record { some = h.0.0; plain = digits_plain (decimal n) h.0.1 }

-- ---- what is trimmed

-- a plain byte is no blank of a list
no_space : (b : ℕ) → is_plain_byte b ≡ true → is_white_space b ≡ false
no_space b e = let l : nat_le 33 b ≡ true = (and_parts (nat_le 33 b) (nat_le b 126) (and_parts (nat_le 33 b && nat_le b 126) (not (is_special b)) e).0).0 in grind (arith, nat_tests)

plain_front : (t : List ℕ) → list_all is_plain_byte t ≡ true → starts_white t ≡ false
plain_front [] h = refl
plain_front (b ∷ t) h = no_space b (and_parts (is_plain_byte b) _ h).0

plain_at : (t : List ℕ) (k : ℕ) → list_all is_plain_byte t ≡ true → k < length t → is_white_space (get_or t k 0) ≡ false
plain_at [] k h l = absurd (omega arith)
plain_at (b ∷ t) zero h l = no_space b (and_parts (is_plain_byte b) _ h).0
plain_at (b ∷ t) (suc k) h l = plain_at t k (and_parts (is_plain_byte b) _ h).1 (omega arith)

pub nothing_trimmed : (t : List ℕ) → IsPlainWord t → trimmed t ≡ t
nothing_trimmed t p =
    let l : 0 < length t = p.some in
    ap without_trailing_white_space (front_end t (plain_front t p.plain))
    ∙ back_end t (last_test t l ∙ plain_at t (length t - 1) p.plain (omega arith))
