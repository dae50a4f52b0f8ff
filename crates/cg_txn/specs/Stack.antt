-- The stack of one transaction (this project's own choice).
use Rattle.std.specs.Prelude.{ℕ, ◌||◌, Bool, true, false, cond, List, [], ◌∷◌, Option, Some, None}
use Rattle.cg_name.specs.Name.{Name, same_name}
use Rattle.cg_model.specs.Change.{Change}
use Rattle.cg_model.specs.Footprint.{Mark}

-- a command, with the place of its record, its inverse and its footprint; or a savepoint
pub data StackItem : Type 0 where
  Command : (place : ℕ) (inverse : List Change) (footprint : List Mark) → StackItem
  Savepoint : Name → StackItem

-- the number of a transaction; what stands of it, the newest first; and whether room for one more item is reserved
pub record Stack : Type 0 where
  pub number : ℕ
  pub items : List StackItem
  pub reserved : Bool

-- a savepoint on the stack has this name
abbrev pub has_savepoint : Name → List StackItem → Bool
has_savepoint n [] = false
has_savepoint n (Command k d f ∷ l) = has_savepoint n l
has_savepoint n (Savepoint m ∷ l) = same_name m n || has_savepoint n l

-- the newest item is a command
abbrev pub ends_in_command : List StackItem → Bool
ends_in_command (Command k d f ∷ l) = true
ends_in_command _ = false

-- the commands alone
abbrev pub commands : List StackItem → List StackItem
commands [] = []
commands (Command k d f ∷ l) = Command k d f ∷ commands l
commands (Savepoint n ∷ l) = commands l

-- the newest command above the savepoint with this name, if there is one, and what stands below it; where there is none, what
-- stands below the savepoint
abbrev pub next_back : Name → List StackItem → Option StackItem × List StackItem
next_back n [] = (None, [])
next_back n (Command k d f ∷ l) = (Some (Command k d f), l)
next_back n (Savepoint m ∷ l) = cond (same_name m n) (None, l) (next_back n l)

-- the newest command, if there is one, and what stands below it
abbrev pub next_newest : List StackItem → Option StackItem × List StackItem
next_newest [] = (None, [])
next_newest (Command k d f ∷ l) = (Some (Command k d f), l)
next_newest (Savepoint m ∷ l) = next_newest l
