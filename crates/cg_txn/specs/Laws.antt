-- What steps back to a savepoint come to.
use Rattle.std.specs.Prelude.{◌≡◌, true, cond, List, [], ◌∷◌, Some, None}
use Rattle.cg_name.specs.Name.{Name, same_name}
use Rattle.cg_txn.specs.Stack.{StackItem, Command, Savepoint, has_savepoint, next_back}

-- the commands above the savepoint with this name, the newest first
abbrev pub commands_above : Name → List StackItem → List StackItem
commands_above n [] = []
commands_above n (Command k d f ∷ l) = Command k d f ∷ commands_above n l
commands_above n (Savepoint m ∷ l) = cond (same_name m n) [] (commands_above n l)

-- what stands below it
abbrev pub below : Name → List StackItem → List StackItem
below n [] = []
below n (Command k d f ∷ l) = below n l
below n (Savepoint m ∷ l) = cond (same_name m n) l (below n l)

-- a step that takes a command takes the newest above the savepoint, which stays, with what stands below it
abbrev pub StepTakes : Type 0
StepTakes = (n : Name) (l m : List StackItem) (c : StackItem) → has_savepoint n l ≡ true → next_back n l ≡ (Some c, m)
    → (commands_above n l ≡ c ∷ commands_above n m) × (below n m ≡ below n l) × (has_savepoint n m ≡ true)

-- a step that takes none finds none above the savepoint, and leaves what stands below it
abbrev pub LastStep : Type 0
LastStep = (n : Name) (l m : List StackItem) → has_savepoint n l ≡ true → next_back n l ≡ (None, m)
    → (commands_above n l ≡ []) × (m ≡ below n l)
