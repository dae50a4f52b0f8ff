-- How the places of scripts lie in memory; the newest script stands first here, the oldest there.
use Rattle.std.specs.Prelude.{ℕ, List, [], ◌∷◌, ◌++◌, length, get_or}

-- the places of one script after another
abbrev pub joined : List (List ℕ) → List ℕ
joined [] = []
joined (l ∷ ls) = joined ls ++ l

-- where each ends among them
abbrev pub ends_of : List (List ℕ) → List ℕ
ends_of [] = []
ends_of (l ∷ ls) = ends_of ls ++ length (joined (l ∷ ls)) ∷ []

-- where so many scripts end
abbrev pub end_of : List ℕ → ℕ → ℕ
end_of ends k = get_or (0 ∷ ends) k 0
