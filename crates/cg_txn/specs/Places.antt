-- The places of commands on a stack.
use Rattle.std.specs.Prelude.{ℕ, List, [], ◌∷◌, ◌++◌, Option, Some, None}
use Rattle.cg_txn.specs.declared.entry.Item.{Item}
use Rattle.cg_txn.specs.declared.entry.Item.TheVariants as items
use Rattle.cg_txn.specs.Stack.{StackItem, Command, Savepoint}

-- the place of an item, where it is a command
abbrev pub place_of : Item → Option ℕ
place_of (items.Command e) = Some e.place
place_of (items.Savepoint n) = None

-- the places of the commands, the oldest first
abbrev pub places_on : List StackItem → List ℕ
places_on [] = []
places_on (Command k d f ∷ l) = places_on l ++ k ∷ []
places_on (Savepoint n ∷ l) = places_on l
