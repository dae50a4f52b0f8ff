-- What stands: the live stack of each transaction, read from its own records, and the surviving commands.
use Rattle.std.specs.Prelude.{ℕ, ◌==◌, ◌||◌, Bool, true, false, cond, List, [], ◌∷◌, ◌++◌, length, drop}
use Rattle.cg_name.specs.Name.{Name, same_name}
use Rattle.cg_model.specs.System.{System, Outcome}
use Rattle.cg_model.specs.History.{Request, Do, Save, Back, Undo, Abort, Answer, Gave, Saved, WentBack, Committed, Aborted, History}

-- an accepted command with its outcome, or a savepoint; each with its transaction and the records before it
pub data Item (y : System) : Type 0 where
  Ran : (transaction : ℕ) (before : History y) (command : y.Command) (outcome : Outcome) → Item y
  AtSavepoint : (transaction : ℕ) (before : History y) (name : Name) → Item y

-- a stack, the newest first
abbrev pub Items : System → Type 0
Items y = List (Item y)

-- what lies below the savepoint with this name
abbrev pub below : {y : System} → Name → Items y → Items y
below n [] = []
below n (Ran t h c a ∷ l) = below n l
below n (AtSavepoint t h m ∷ l) = cond (same_name m n) l (below n l)

-- a transaction's stack after one more of its records
abbrev pub live_after : {y : System} → Request y → Answer → ℕ → History y → Items y → Items y
live_after (Do c) (Gave a) t h l = Ran t h c a ∷ l
live_after (Save n) Saved t h l = AtSavepoint t h n ∷ l
live_after Undo (Gave a) t h l = drop 1 l
live_after (Back n) (WentBack k) t h l = below n l
live_after Abort (Aborted u) t h l = []
live_after _ _ t h l = l

-- the stack of a transaction, from its own records alone; it stays after a commit and is empty after an abort
abbrev pub live : {y : System} → ℕ → History y → Items y
live t [] = []
live t (r ∷ h) = cond (r.transaction == t) (live_after r.request r.answer r.transaction h (live t h)) (live t h)

-- the position of an item in the history: how many records stand before it
abbrev pub position : {y : System} → Item y → ℕ
position (Ran t h c a) = length h
position (AtSavepoint t h n) = length h

-- the record at a position is on the stack
abbrev pub stands : {y : System} → ℕ → Items y → Bool
stands p [] = false
stands p (x ∷ l) = (position x == p) || stands p l

-- the item that a record put on a stack
abbrev pub item_of : {y : System} → Request y → Answer → ℕ → History y → Item y
item_of (Do c) (Gave a) t h = Ran t h c a
item_of (Save n) a t h = AtSavepoint t h n
item_of _ _ t h = AtSavepoint t h []

-- x on top of l where the test passes
abbrev pub joined_if : {A : Type 0} → Bool → A → List A → List A
joined_if true x l = x ∷ l
joined_if false x l = l

-- the records that stand on given stacks, in the order of the records
abbrev pub selected : {y : System} → (ℕ → Items y) → History y → Items y
selected stacks [] = []
selected stacks (r ∷ h) = joined_if (stands (length h) (stacks r.transaction)) (item_of r.request r.answer r.transaction h) (selected stacks h)

-- what survives: the commands (and savepoints) on the stack of an open transaction, or of a committed one as it committed
abbrev pub survivors : {y : System} → History y → Items y
survivors h = selected (λ t. live t h) h

-- what was committed after one more answer, to a transaction with the stack l
abbrev pub committed_after : {y : System} → Answer → Items y → Items y → Items y
committed_after (Committed k) l cs = l ++ cs
committed_after _ l cs = cs

-- the scripts of the committed transactions, joined in commit order, the newest first
abbrev pub committed : {y : System} → History y → Items y
committed [] = []
committed (r ∷ h) = committed_after r.answer (live r.transaction h) (committed h)

-- the scripts after one more answer, to a transaction with the stack l
abbrev pub scripts_after : {y : System} → Answer → Items y → List (Items y) → List (Items y)
scripts_after (Committed k) l ss = l ∷ ss
scripts_after _ l ss = ss

-- the script of each committed transaction, also an empty one: its stack as it committed; the newest first
abbrev pub scripts : {y : System} → History y → List (Items y)
scripts [] = []
scripts (r ∷ h) = scripts_after r.answer (live r.transaction h) (scripts h)

-- scripts one after another
abbrev pub one_by_one : {y : System} → List (Items y) → Items y
one_by_one [] = []
one_by_one (l ∷ ls) = l ++ one_by_one ls

-- the stacks of these transactions one after another, the first of them newest, above those below
abbrev pub stacked : {y : System} → List ℕ → History y → Items y → Items y
stacked [] h under = under
stacked (t ∷ ts) h under = live t h ++ stacked ts h under
