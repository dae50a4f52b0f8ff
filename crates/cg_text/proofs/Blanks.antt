-- Lines by what stands behind their first blanks.
use Rattle.std.proofs.Common.{◌≡◌, ◌==◌, ℕ, ◌<◌, Bool, true, false, cond, List, [], ◌∷◌, length, get_or, Some, None, refl, ap, sym, true≢false, arith}
use Rattle.std.proofs.lemmas.Bool.Decides.{nat_tests}
use Rattle.std.specs.List.{slice_get}
use Rattle.cg_name.specs.Word.{is_blank}
use Rattle.cg_text.specs.Cutting.{behind, starts_blank}
use Rattle.cg_text.specs.Words.{is_silent}

-- no byte, or a number sign
abbrev pub starts_silent : List ℕ → Bool
starts_silent [] = true
starts_silent (b ∷ bs) = b == 35

pub silent_behind : (line : List ℕ) → is_silent line ≡ starts_silent (behind is_blank line)
silent_behind [] = refl
silent_behind (b ∷ line) =
    elim (is_blank b) as (λ k. cond k (is_silent line) (b == 35) ≡ starts_silent (cond k (behind is_blank line) (b ∷ line))) [
      | true ↦ silent_behind line
      | false ↦ refl
    ]

pub silent_at_none : (line : List ℕ) → None ≡ slice_get line 0 → starts_silent line ≡ true
silent_at_none [] e = refl
silent_at_none (b ∷ line) e = absurd (let k : None ≡ Some b = e in cc)

pub silent_at_some : (line : List ℕ) (b : ℕ) → Some b ≡ slice_get line 0 → starts_silent line ≡ (b == 35)
silent_at_some [] b e = absurd (let k : Some b ≡ None = e in cc)
silent_at_some (x ∷ line) b e = let k : Some b ≡ Some x = e in let same : x ≡ b = cc in ap (λ y. y == 35) same

blank_is_ascii : (b : ℕ) → is_blank b ≡ true → b < 128
blank_is_ascii b e = grind (arith, nat_tests)

pub blank_start : (line : List ℕ) → starts_blank line ≡ true → (0 < length line) × (get_or line 0 0 < 128)
blank_start [] e = absurd (true≢false (sym e))
blank_start (b ∷ line) e = (omega arith, blank_is_ascii b e)
