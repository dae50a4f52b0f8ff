-- What the open transactions of the machine hold, by their stacks.
use Rattle.std.specs.Prelude.{◌≡◌, ℕ, ◌+◌, ◌<◌, ◌==◌, cond, List, [], ◌∷◌}
use Rattle.std.specs.List.{AllByRecursion}
use Rattle.cg_model.specs.Cgroups.{cgroups}
use Rattle.cg_model.specs.Footprint.{Mark}
use Rattle.cg_model.specs.Machine.{StackEntry, Did, Savepoint, Transaction}
use Rattle.cg_locks.specs.Holdings.{Holdings, holdings}
use Rattle.cg_locks.specs.Marks.{times}

-- how often the mark stands in the footprints of these stack entries
abbrev pub times_in_stack : Mark → List (StackEntry cgroups) → ℕ
times_in_stack m [] = 0
times_in_stack m (Did t h c a d f ∷ l) = times m f + times_in_stack m l
times_in_stack m (Savepoint t h n ∷ l) = times_in_stack m l

-- and in those of the transaction u
abbrev pub times_in_stacks : ℕ → Mark → List (Transaction cgroups) → ℕ
times_in_stacks u m [] = 0
times_in_stacks u m (x ∷ xs) = cond (u == x.number) (times_in_stack m x.stack) 0 + times_in_stacks u m xs

-- each transaction holds each mark as often as it stands in the footprints of its stack
abbrev pub HoldsStacks : Holdings → List (Transaction cgroups) → Type 0
HoldsStacks T xs = (u : ℕ) (m : Mark) → holdings T u m ≡ times_in_stacks u m xs

-- the newest stands first: each number is below those before it
abbrev pub NewestFirst : List (Transaction cgroups) → Type 0
NewestFirst [] = Unit {0}
NewestFirst (x ∷ xs) = AllByRecursion (λ y. y.number < x.number) xs × NewestFirst xs
