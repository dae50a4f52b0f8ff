-- One step for each command of a list, with its inverse and its footprint, the first one first: from a tree with room and what
-- is held to another. Savepoints on the way take none.
use Rattle.std.specs.Prelude.{◌≡◌, List, [], ◌∷◌}
use Rattle.cg_model.specs.Change.{Change}
use Rattle.cg_model.specs.Footprint.{Mark}
use Rattle.cg_tree.specs.Room.{TreeWithRoom}
use Rattle.cg_locks.specs.Holdings.{Holdings}
use Rattle.cg_txn.specs.Stack.{StackItem, Command, Savepoint}

-- what a step needs, of a command and of where it starts
abbrev pub Need : Type 1
Need = List Change → List Mark → TreeWithRoom → Holdings → Type 0

-- where a step of a command leads
abbrev pub Step : Type 1
Step = List Change → List Mark → TreeWithRoom → Holdings → TreeWithRoom → Holdings → Type 0

-- each step may be taken, wherever those before it lead
abbrev pub MayEach : Need → Step → List StackItem → TreeWithRoom → Holdings → Type 0
MayEach N S [] R H = Unit {0}
MayEach N S (Command k d f ∷ l) R H = N d f R H × ((R' : TreeWithRoom) (H' : Holdings) → S d f R H R' H' → MayEach N S l R' H')
MayEach N S (Savepoint n ∷ l) R H = MayEach N S l R H

-- all steps are taken
abbrev pub Each : Step → List StackItem → TreeWithRoom → Holdings → TreeWithRoom → Holdings → Type 0
Each S [] R H R' H' = (R' ≡ R) × (H' ≡ H)
Each S (Command k d f ∷ l) R H R' H' = (A : TreeWithRoom) × (B : Holdings) × (S d f R H A B) × (Each S l A B R' H')
Each S (Savepoint n ∷ l) R H R' H' = Each S l R H R' H'
