-- The machine's stacks, numbers and counts, as its history gives them.
use Rattle.std.specs.Prelude.{◌≡◌, List, [], ◌∷◌, map, length}
use Rattle.std.specs.List.{AllByRecursion}
use Rattle.cg_model.specs.System.{System, Accept}
use Rattle.cg_model.specs.Opens.{opens, begins, commits}
use Rattle.cg_model.specs.Live.{Item, Ran, AtSavepoint, Items, live}
use Rattle.cg_model.specs.Run.{tree_of}
use Rattle.cg_model.specs.Reply.{live_footprints}
use Rattle.cg_model.specs.Machine.{StackEntry, Did, Savepoint, Machine}

-- what stands on a stack, without inverses and footprints
abbrev pub as_item : {y : System} → StackEntry y → Item y
as_item (Did t h c a d f) = Ran t h c a
as_item (Savepoint t h n) = AtSavepoint t h n

-- the items of a stack
abbrev pub as_items : {y : System} → List (StackEntry y) → Items y
as_items [] = []
as_items (x ∷ l) = as_item x ∷ as_items l

-- the footprints on a stack
abbrev pub footprints_on : {y : System} → List (StackEntry y) → List y.Footprint
footprints_on [] = []
footprints_on (Did t h c a d f ∷ l) = f ∷ footprints_on l
footprints_on (Savepoint t h n ∷ l) = footprints_on l

-- each command has the footprint and the inverse that it had when it was accepted: in the tree of the records before it
abbrev pub StackEntriesTrue : (y : System) → y.State → List (StackEntry y) → Type 0
StackEntriesTrue y o [] = Unit {0}
StackEntriesTrue y o (Did t h c a d f ∷ l) = (f ≡ y.footprint c (tree_of y o h)) × (y.effect c (tree_of y o h) ≡ Accept a d) × StackEntriesTrue y o l
StackEntriesTrue y o (Savepoint t h n ∷ l) = StackEntriesTrue y o l

-- the machine's transactions and counts are those of its history
pub record IsOfHistory (y : System) (o : y.State) (m : Machine y) : Type 0 where
  -- the open transactions, each as its session and its number
  pub transactions : map (λ x. (x.session, x.number)) m.transactions ≡ opens m.history
  pub open_count : length m.transactions ≡ length (opens m.history)
  -- the stack of each is what stands of it, with its inverses and footprints
  pub stacks : AllByRecursion (λ x. as_items x.stack ≡ live x.number m.history) m.transactions
  pub stack_entries : AllByRecursion (λ x. StackEntriesTrue y o x.stack) m.transactions
  -- what each holds are the footprints of its live commands
  pub footprints : AllByRecursion (λ x. footprints_on x.stack ≡ live_footprints y o x.number m.history) m.transactions
  pub begun : m.begun ≡ begins m.history
  pub commits : m.commits ≡ commits m.history
