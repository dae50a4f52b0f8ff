-- Slices of words.
use Rattle.std.proofs.Common.{◌≡◌, ℕ, ◌<◌, ◌≤◌, List, [], ◌∷◌, length, get_or, map, Bor, refl, arith}

-- what reading gives past a slice's end
abbrev pub nothing : Bor (List ℕ)
nothing = record { ref_ptr = (0, 0); now = [] }

pub two_words : (ws : List (Bor (List ℕ))) → 2 ≤ length ws → length ws < 3 → map (λ w. w.now) ws ≡ (get_or ws 0 nothing).now ∷ (get_or ws 1 nothing).now ∷ []
two_words [] l h = absurd (omega arith)
two_words (a ∷ []) l h = absurd (omega arith)
two_words (a ∷ b ∷ []) l h = refl
two_words (a ∷ b ∷ c ∷ ws) l h = absurd (omega arith)
