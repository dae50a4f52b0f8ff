-- Lists that are written part by part.
use Rattle.std.specs.Prelude.{ℕ, Bool, cond, List, ◌∷◌}

-- a part with the separating byte before it, unless it begins the list
abbrev pub separated : ℕ → Bool → List ℕ → List ℕ
separated separator behind part = cond behind (separator ∷ part) part
