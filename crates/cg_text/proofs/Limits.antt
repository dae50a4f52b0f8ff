-- Limits are told by their numbers, and a text spells one at most.
use Rattle.std.proofs.Common.{◌≡◌, ◌≤◌, ℕ, List, inl, inr, refl, sym, ap, subst, ◌∙◌, arith}
use Rattle.std.specs.Coded.{le_prop}
use Rattle.std.specs.Prelude.{codes}
use Rattle.std.specs.Str.Parse.{IsNumeral}
use Rattle.std.proofs.lemmas.Str.Parse.{digit_from_value}
use mathlib.Core.HLevel.{Σ_prop_path}
use Rattle.cg_digits.specs.WhiteSpace.{trimmed}
use Rattle.cg_text.specs.Laws.{LimitIsItsNumber, OneLimit}
use Rattle.cg_text.specs.Reading.{SpellsLimitTrimmed}
use Rattle.cg_text.specs.declared.limit.Limit.{Limit}
use Rattle.cg_text.specs.declared.limit.Limit.TheVariants.{Max, UpTo}
use Rattle.cg_text.specs.declared.limit.LimitNumber.{LimitNumber}

pub same_number : (n m : LimitNumber) → n.number ≡ m.number → n ≡ m
same_number n m e =
    let pairs : ◌≡◌ {A = (k : ℕ) × (k ≤ 2147483646)} (n.number, n.in_range) (m.number, m.in_range) = Σ_prop_path (λ k. le_prop) e in
    λ i. record { number = (pairs i).0; in_range = (pairs i).1 }

pub limit_is_its_number : LimitIsItsNumber
limit_is_its_number Max Max e = refl
limit_is_its_number Max (UpTo m) e = cc e
limit_is_its_number (UpTo n) Max e = cc e
limit_is_its_number (UpTo n) (UpTo m) e = let numbers : n.number ≡ m.number = cc e in ap UpTo (same_number n m numbers)

-- `max` is no number
no_number : (t : List ℕ) → t ≡ codes "max" → IsNumeral 10 t → ⊥
no_number t e h =
    let k = subst (IsNumeral 10) e h in
    let d = digit_from_value 109 k.1.0 in omega (arith, d.1)

one_trimmed : (t : List ℕ) (a b : Limit) → SpellsLimitTrimmed t a → SpellsLimitTrimmed t b → a ≡ b
one_trimmed t Max Max h k = refl
one_trimmed t Max (UpTo n) (inl e) k = absurd (no_number t e k.0)
one_trimmed t Max (UpTo n) (inr h) k = absurd (omega (arith, h.1, k.1, n.in_range))
one_trimmed t (UpTo n) Max h (inl e) = absurd (no_number t e h.0)
one_trimmed t (UpTo n) Max h (inr k) = absurd (omega (arith, h.1, n.in_range, k.1))
one_trimmed t (UpTo n) (UpTo m) h k = ap UpTo (same_number n m (sym h.1 ∙ k.1))

pub one_limit : OneLimit
one_limit text a b h k = one_trimmed (trimmed text) a b h k
