-- Taking commands off, each by its inverse, and letting go of those of a commit (this project's own choice).
use Rattle.std.specs.Prelude.{ℕ, List}
use Rattle.cg_model.specs.Change.{Change, undone, Fits}
use Rattle.cg_model.specs.Footprint.{Mark}
use Rattle.cg_model.specs.Room.{RoomFor}
use Rattle.cg_tree.specs.Room.{TreeWithRoom, has_entry}
use Rattle.cg_locks.specs.Holdings.{Holdings}
use Rattle.cg_txn.specs.Stack.{StackItem}
use Rattle.cg_txn.specs.LettingGo.{MayLetGo, IsLetGo}
use Rattle.cg_txn.specs.Steps.{MayEach, Each}

-- every key that the command changed is put back; the entries stay
abbrev pub undone_in : List Change → TreeWithRoom → TreeWithRoom
undone_in d R = record { tree = undone d R.tree; entries = R.entries }

-- a command of t with the inverse d and the footprint f may be taken off
pub record MayComeOff (t : ℕ) (d : List Change) (f : List Mark) (R : TreeWithRoom) (H : Holdings) : Type 0 where
  pub fits : Fits d R.tree
  pub room : RoomFor (has_entry R) d
  pub let_go : MayLetGo t f (undone_in d R) H

-- it is taken off: undone first, and then let go
abbrev pub ComesOff : ℕ → List Change → List Mark → TreeWithRoom → Holdings → TreeWithRoom → Holdings → Type 0
ComesOff t d f R H R' H' = IsLetGo t f (undone_in d R) H R' H'

-- commands of t may come off, the first one first
abbrev pub AllMayComeOff : ℕ → List StackItem → TreeWithRoom → Holdings → Type 0
AllMayComeOff t l R H = MayEach (MayComeOff t) (ComesOff t) l R H

-- they come off
abbrev pub AllComeOff : ℕ → List StackItem → TreeWithRoom → Holdings → TreeWithRoom → Holdings → Type 0
AllComeOff t l R H R' H' = Each (ComesOff t) l R H R' H'

-- t may let go of commands, of the first one first
abbrev pub AllMayLetGo : ℕ → List StackItem → TreeWithRoom → Holdings → Type 0
AllMayLetGo t l R H = MayEach (λ d f. MayLetGo t f) (λ d f. IsLetGo t f) l R H

-- it lets go of them; they stay done
abbrev pub AllLetGo : ℕ → List StackItem → TreeWithRoom → Holdings → TreeWithRoom → Holdings → Type 0
AllLetGo t l R H R' H' = Each (λ d f. IsLetGo t f) l R H R' H'
