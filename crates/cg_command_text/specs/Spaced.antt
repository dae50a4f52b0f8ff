-- The words behind others in a line.
use Rattle.std.specs.Prelude.{ℕ, List, ◌∷◌}
use Rattle.std.specs.List.{flat_map}
use Rattle.cg_text.specs.Words.{Word}

-- each word with a space before it
abbrev pub spaced : List Word → List ℕ
spaced ws = flat_map (λ w. 32 ∷ w) ws
