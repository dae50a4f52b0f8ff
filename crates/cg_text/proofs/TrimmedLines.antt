-- A newline behind a text doesn't count.
use Rattle.std.proofs.Common.{◌≡◌, ℕ, true, false, cond, List, [], ◌∷◌, ◌++◌, reverse, refl, sym, ap, subst, arith}
use Rattle.std.proofs.lemmas.List.{reverse-append}
use Rattle.cg_cpus.specs.CpuList.{SpellsTrimmed, cpus_text}
use Rattle.cg_digits.specs.WhiteSpace.{is_white_space, without_leading_white_space, without_trailing_white_space, trimmed}
use Rattle.cg_cpus.proofs.Canonical.{canonical_spells}
use Rattle.cg_text.specs.Laws.{CpusAreSpelled}

behind_newline : (t : List ℕ) → without_trailing_white_space (t ++ 10 ∷ []) ≡ without_trailing_white_space t
behind_newline t = ap (λ bs. reverse (without_leading_white_space bs)) (reverse-append t (10 ∷ []))

pub trimmed_line : (t : List ℕ) → trimmed (t ++ 10 ∷ []) ≡ trimmed t
trimmed_line [] = refl
trimmed_line (b ∷ t) =
    elim (is_white_space b) as (λ x. without_trailing_white_space (cond x (without_leading_white_space (t ++ 10 ∷ [])) (b ∷ (t ++ 10 ∷ []))) ≡ without_trailing_white_space (cond x (without_leading_white_space t) (b ∷ t))) [
      | true ↦ trimmed_line t
      | false ↦ behind_newline (b ∷ t)
    ]

pub cpus_are_spelled : CpusAreSpelled
cpus_are_spelled s low = subst (λ t. SpellsTrimmed t s) (sym (trimmed_line (cpus_text s))) (canonical_spells s (λ n h. omega (arith, low n h)))
