-- Texts without the white space at their ends.
use Rattle.std.specs.Prelude.{ℕ, ◌==◌, ◌||◌, Bool, false, if◌then◌else◌, List, [], ◌∷◌, reverse}

-- white space: a space, a tab or a newline
abbrev pub is_white_space : ℕ → Bool
is_white_space b = (b == 32) || (b == 9) || (b == 10)

-- the text behind its leading white space
abbrev pub without_leading_white_space : List ℕ → List ℕ
without_leading_white_space [] = []
without_leading_white_space (b ∷ bs) = if is_white_space b then without_leading_white_space bs else b ∷ bs

-- the text before its trailing white space
abbrev pub without_trailing_white_space : List ℕ → List ℕ
without_trailing_white_space bs = reverse (without_leading_white_space (reverse bs))

-- the text without the white space at both ends
abbrev pub trimmed : List ℕ → List ℕ
trimmed text = without_trailing_white_space (without_leading_white_space text)

-- the first byte is white space
abbrev pub starts_white : List ℕ → Bool
starts_white [] = false
starts_white (b ∷ bs) = is_white_space b
