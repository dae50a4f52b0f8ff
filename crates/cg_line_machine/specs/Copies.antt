-- What is copied into a buffer.
use Rattle.std.specs.Prelude.{◌≡◌, ℕ, ◌++◌, List, length, take, drop, min}

-- a text is copied to the front of a buffer, as far as there is room, and the rest of the buffer stays
abbrev pub Copies : List ℕ → List ℕ → List ℕ → ℕ → Type 0
Copies text old new count = (count ≡ min (length text) (length old)) × (new ≡ take count text ++ drop count old)
