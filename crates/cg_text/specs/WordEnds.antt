-- Where the words of a line end that has only bare ones, of ASCII.
use Rattle.std.specs.Prelude.{ℕ, Bool, true, ◌||◌, not, nat_le, List, [], ◌∷◌, ◌++◌, map}
use Rattle.std.specs.Simd.Lanes.{mask_l}
use Rattle.cg_name.specs.Word.{is_blank, is_special}

-- a byte that such a line doesn't have, and each other one
abbrev pub is_unusual : ℕ → Bool
is_unusual b = is_special b || nat_le 128 b

abbrev pub is_usual : ℕ → Bool
is_usual b = not (is_unusual b)

-- a bit for each byte, which is set where the byte is a blank, and one that is set behind them
abbrev pub word_ends : List ℕ → ℕ
word_ends line = mask_l (map is_blank line ++ true ∷ [])
