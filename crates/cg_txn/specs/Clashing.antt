-- The command on a stack that is in the way of a footprint.
use Rattle.std.specs.Prelude.{ℕ, List, [], ◌∷◌, Option, None, option_map}
use Rattle.std.specs.Option.{option_or}
use Rattle.cg_model.specs.Footprint.{Mark}
use Rattle.cg_locks.specs.Clashing.{any_mark, first_clashing}
use Rattle.cg_txn.specs.declared.entry.Clash.{Clash}
use Rattle.cg_txn.specs.declared.entry.Item.{Item}
use Rattle.cg_txn.specs.declared.entry.Item.TheVariants as items
use Rattle.cg_txn.specs.Stack.{StackItem, Command, Savepoint}

-- the oldest command with a mark that clashes with one of these: the place of its record, and the first such mark
abbrev pub oldest_clashing : List Mark → List StackItem → Option (ℕ × Mark)
oldest_clashing g [] = None
oldest_clashing g (Command k d f ∷ l) = option_or (oldest_clashing g l) (option_map (λ m. (k, m)) (first_clashing f g))
oldest_clashing g (Savepoint n ∷ l) = oldest_clashing g l

-- what is told of a command
abbrev pub told_clash : Clash → ℕ × Mark
told_clash c = (c.place, any_mark c.mark)

-- what is told of an item
abbrev pub clash_of : List Mark → Item → Option (ℕ × Mark)
clash_of g (items.Command e) = option_map (λ m. (e.place, m)) (first_clashing e.footprint g)
clash_of g (items.Savepoint n) = None
