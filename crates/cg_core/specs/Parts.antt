-- What the parts of a core are, by its history.
use Rattle.std.specs.Prelude.{◌≡◌, ℕ, ◌+◌, ◌≤◌, List, map, length}
use Rattle.cg_model.specs.Cgroups.{cgroups}
use Rattle.cg_model.specs.Footprint.{footprint}
use Rattle.cg_model.specs.History.{History}
use Rattle.cg_model.specs.Live.{Item, Ran, AtSavepoint, Items, live}
use Rattle.cg_model.specs.Opens.{numbers, opens}
use Rattle.cg_model.specs.Reply.{live_count}
use Rattle.cg_model.specs.Room.{inverse}
use Rattle.cg_model.specs.Run.{tree_of}
use Rattle.cg_model.specs.Sound.{Sound}
use Rattle.cg_model.specs.Tree.{Tree}
use Rattle.cg_core_laws.specs.MachineOf.{Reached}
use Rattle.cg_locks.specs.Holdings.{Holdings}
use Rattle.cg_tree.specs.Room.{TreeWithRoom}
use Rattle.cg_history.specs.SessionMap.{IsOnceEach}
use Rattle.cg_txn.specs.Stack.{Stack, StackItem, Command, Savepoint}
use Rattle.cg_core.specs.Stage.{Holds}

-- an item on the stack of the code: with the index of its record, the inverse and the footprint that its command had in the
-- tree of the records before it
abbrev pub stack_item : Tree → Item cgroups → StackItem
stack_item O (Ran t h c a) = Command (length h) (inverse O (Ran t h c a)) (footprint c (tree_of cgroups O h))
stack_item O (AtSavepoint t h n) = Savepoint n

-- an open transaction of the code, and of the history: its session, its number and its stack
abbrev pub of_code : ℕ × Stack → ℕ × (ℕ × List StackItem)
of_code x = (x.0, (x.1.number, x.1.items))

abbrev pub of_history : Tree → (ℕ → Items cgroups) → ℕ × ℕ → ℕ × (ℕ × List StackItem)
of_history O stacks p = (p.0, (p.1, map (stack_item O) (stacks p.1)))

-- the reserved slots: one for the end of each open transaction, one for each item on its stack
abbrev pub reserved_for : History cgroups → ℕ
reserved_for h = length (opens h) + live_count (opens h) h

-- the parts of a core are those of its history
pub record IsCoreOf (O : Tree) (bound : ℕ) (h : History cgroups) (slots : ℕ) (R : TreeWithRoom) (H : Holdings) (xs : List (ℕ × Stack)) : Type 0 where
  pub low : 2 ≤ bound
  pub high : bound ≤ 1048576
  pub sound : Sound O
  pub reached : Reached O bound h
  pub holds : Holds O (numbers (opens h)) (λ t. live t h) (tree_of cgroups O h) R H
  pub transactions : map of_code xs ≡ map (of_history O (λ t. live t h)) (opens h)
  pub once : IsOnceEach xs
  pub reserved : slots ≡ reserved_for h
