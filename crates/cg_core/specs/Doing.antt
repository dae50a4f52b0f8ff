-- A command that is carried out in its transaction.
use Rattle.std.specs.Prelude.{◌≡◌, ℕ, ◌+◌, ◌==◌, Bool, true, false, cond, List, ◌∷◌}
use Rattle.cg_command.specs.Applied.{entries_after}
use Rattle.cg_locks.specs.Holdings.{Holdings, holdings}
use Rattle.cg_locks.specs.Marks.{times}
use Rattle.cg_model.specs.Change.{Change, done}
use Rattle.cg_model.specs.Command.{Command}
use Rattle.cg_model.specs.Effect.{effect}
use Rattle.cg_model.specs.Footprint.{Mark}
use Rattle.cg_model.specs.History.{Answer, Gave}
use Rattle.cg_model.specs.System.{Outcome, Done, Text, Accept}
use Rattle.cg_tree.specs.Room.{TreeWithRoom}
use Rattle.cg_txn.specs.Stack as stack
use Rattle.cg_txn.specs.Stack.{Stack}

-- the answer a is that to the command's outcome, the tree R' is R with its changes, and there is an entry of what it made
pub record IsApplied (c : Command) (R : TreeWithRoom) (a : Answer) (changes : List Change) (R' : TreeWithRoom) : Type 0 where
  pub outcome : Outcome
  pub effect : effect c R.tree ≡ Accept outcome changes
  pub answer : a ≡ Gave outcome
  pub tree : R'.tree ≡ done changes R.tree
  pub entries : R'.entries ≡ entries_after c R.entries

-- and its transaction holds its footprint f, and has it on its stack, as the command of the record k
pub record IsCarriedOut (c : Command) (k : ℕ) (f : List Mark) (R : TreeWithRoom) (H : Holdings) (s : Stack) (a : Answer) (R' : TreeWithRoom) (H' : Holdings) (s' : Stack) : Type 0 where
  pub changes : List Change
  pub applied : IsApplied c R a changes R'
  pub taken : (u : ℕ) (m : Mark) → holdings H' u m ≡ holdings H u m + cond (u == s.number) (times m f) 0
  pub stack : s' ≡ record s { items = stack.Command k changes f ∷ s.items; reserved = false }

-- the outcome is a text
abbrev pub is_text : Outcome → Bool
is_text Done = false
is_text (Text x) = true
