-- Blanks that are cut off one by one.
use Rattle.std.proofs.Common.{◌≡◌, ℕ, suc, ◌-◌, ◌<◌, true, false, cond, List, [], ◌∷◌, ◌++◌, length, take, drop, get_or, reverse, refl, sym, ap, ◌∙◌, true≢false, arith}
use Rattle.std.proofs.lemmas.List.{reverse-append, reverse-reverse}
use Rattle.std.proofs.lemmas.Bool.Decides.{nat_tests}
use Rattle.std.proofs.Math.Seq.{take-suc, take-length}
use Rattle.cg_digits.specs.WhiteSpace.{is_white_space, starts_white, without_leading_white_space, without_trailing_white_space}

pub white_is_ascii : (b : ℕ) → is_white_space b ≡ true → b < 128
white_is_ascii b e = grind (arith, nat_tests)

pub nonempty : (bs : List ℕ) → starts_white bs ≡ true → 0 < length bs
nonempty [] e = absurd (true≢false (sym e))
nonempty (b ∷ bs) e = omega arith

pub first_is_white : (bs : List ℕ) → starts_white bs ≡ true → is_white_space (get_or bs 0 0) ≡ true
first_is_white [] e = absurd (true≢false (sym e))
first_is_white (b ∷ bs) e = e

pub front_step : (bs : List ℕ) → starts_white bs ≡ true → without_leading_white_space (drop 1 bs) ≡ without_leading_white_space bs
front_step [] e = refl
front_step (b ∷ bs) e = sym (ap (λ t. cond t (without_leading_white_space bs) (b ∷ bs)) e)

pub front_end : (bs : List ℕ) → starts_white bs ≡ false → without_leading_white_space bs ≡ bs
front_end [] e = refl
front_end (b ∷ bs) e = ap (λ t. cond t (without_leading_white_space bs) (b ∷ bs)) e

-- a text is its front and its last byte
snoc : (bs : List ℕ) → 0 < length bs → bs ≡ take (length bs - 1) bs ++ get_or bs (length bs - 1) 0 ∷ []
snoc bs l =
    let n : suc (length bs - 1) ≡ length bs = omega arith in
    sym (take-length bs) ∙ ap (λ k. take k bs) (sym n) ∙ take-suc bs (length bs - 1) 0 (omega arith)

pub reversed : (bs : List ℕ) → 0 < length bs → reverse bs ≡ get_or bs (length bs - 1) 0 ∷ reverse (take (length bs - 1) bs)
reversed bs l = ap reverse (snoc bs l) ∙ reverse-append (take (length bs - 1) bs) (get_or bs (length bs - 1) 0 ∷ [])

pub reversed_nonempty : (bs : List ℕ) → starts_white (reverse bs) ≡ true → 0 < length bs
reversed_nonempty [] e = absurd (true≢false (sym e))
reversed_nonempty (b ∷ bs) e = omega arith

-- the test of the last byte
pub last_test : (bs : List ℕ) → 0 < length bs → starts_white (reverse bs) ≡ is_white_space (get_or bs (length bs - 1) 0)
last_test bs l = ap starts_white (reversed bs l)

pub back_step : (bs : List ℕ) → starts_white (reverse bs) ≡ true → without_trailing_white_space (take (length bs - 1) bs) ≡ without_trailing_white_space bs
back_step bs e =
    let l : 0 < length bs = reversed_nonempty bs e in
    sym (ap (λ rs. reverse (without_leading_white_space rs)) (reversed bs l)
    ∙ ap (λ t. reverse (cond t (without_leading_white_space (reverse (take (length bs - 1) bs))) (get_or bs (length bs - 1) 0 ∷ reverse (take (length bs - 1) bs)))) (sym (last_test bs l) ∙ e))

pub back_end : (bs : List ℕ) → starts_white (reverse bs) ≡ false → without_trailing_white_space bs ≡ bs
back_end bs e = ap reverse (front_end (reverse bs) e) ∙ reverse-reverse bs
