-- What the items of the code mean.
use Rattle.std.specs.Prelude.{Bool, true, false, List, [], ◌∷◌, ◌++◌, Option, Some, None}
use Rattle.cg_name.specs.Name.{Name}
use Rattle.cg_txn.specs.declared.entry.Entry.{Entry}
use Rattle.cg_txn.specs.declared.entry.Item.{Item}
use Rattle.cg_txn.specs.declared.entry.Item.TheVariants as items
use Rattle.cg_txn.specs.Stack.{StackItem, Command, Savepoint}

abbrev pub command_item : Entry → StackItem
command_item e = Command e.place e.inverse e.footprint

abbrev pub item_of : Item → StackItem
item_of (items.Command e) = command_item e
item_of (items.Savepoint n) = Savepoint n

abbrev pub is_command : Item → Bool
is_command (items.Command e) = true
is_command (items.Savepoint n) = false

-- the items, of which the oldest stands first, as a stack
abbrev pub stack_of : List Item → List StackItem
stack_of [] = []
stack_of (x ∷ xs) = stack_of xs ++ item_of x ∷ []

-- the names of their savepoints, the oldest first
abbrev pub names_of : List Item → List Name
names_of [] = []
names_of (items.Command e ∷ xs) = names_of xs
names_of (items.Savepoint n ∷ xs) = n ∷ names_of xs

-- the command that is taken off, as an item
abbrev pub taken_item : Option Entry → Option StackItem
taken_item None = None
taken_item (Some e) = Some (command_item e)

-- the same as a list
abbrev pub taken_items : Option Entry → List StackItem
taken_items None = []
taken_items (Some e) = command_item e ∷ []
