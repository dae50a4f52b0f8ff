-- Stacks of cells: each group has one, and each cell stands in one.
use Rattle.std.specs.Prelude.{◌≡◌, ◌↔◌, ℕ, List, [], ◌∷◌, length, Option, Some, slice_get, ⊤}

-- a list has the number somewhere
abbrev pub Has : List ℕ → ℕ → Type 0
Has js j = (i : ℕ) × (slice_get js i ≡ Some j)

-- from the first cell on, each names the next one
abbrev pub IsStack : (ℕ → Option ℕ) → ℕ → List ℕ → Type 0
IsStack next first [] = ⊤
IsStack next first (j ∷ js) = (first ≡ j) × (n : ℕ) × (next j ≡ Some n) × IsStack next n js

-- the stack of a group: so many cells from the first one on, none twice, and just those that belong to the group
pub record IsStackOf (next group : ℕ → Option ℕ) (g first count : ℕ) : Type 0 where
  pub cells : List ℕ
  pub many : length cells ≡ count
  pub linked : IsStack next first cells
  pub once : (i j k : ℕ) → slice_get cells i ≡ Some k → slice_get cells j ≡ Some k → i ≡ j
  pub own : (j : ℕ) → Has cells j ↔ (group j ≡ Some g)

-- each group has its stack
abbrev pub AreStacks : (ℕ → Option ℕ) → (ℕ → Option ℕ) → (ℕ → Option (ℕ × ℕ)) → Type 0
AreStacks next group stack = (g : ℕ) (s : ℕ × ℕ) → stack g ≡ Some s → IsStackOf next group g s.0 s.1
