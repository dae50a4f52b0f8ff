-- The machine: one tree changed in place, a stack with inverses for each open transaction, counts and the history. It goes
-- back by inverses, and never replays.
use Rattle.std.specs.Prelude.{ℕ, ◌+◌, ◌-◌, ◌==◌, ◌||◌, nat_lt, Bool, true, false, cond, List, [], ◌∷◌, length, Option, Some, None}
use Rattle.cg_name.specs.Name.{Name, same_name}
use Rattle.cg_name.specs.declared.refusal.Refusal.TheVariants.{NoTransaction, AlreadyOpen, Full, Busy, NoSavepoint, NameTaken, NothingToUndo}
use Rattle.cg_model.specs.System.{System, Outcome, Done, Attempt, Refuse, Accept}
use Rattle.cg_model.specs.History.{Request, Begin, Do, Save, Back, Undo, Commit, Abort, Answer, Begun, Gave, Saved, WentBack, Committed, Aborted, Refused, History, is_recorded, named_in}
use Rattle.cg_model.specs.Reply.{found_or}

-- a command that was accepted after these records, with its outcome, its inverse and its footprint; or a savepoint
pub data StackEntry (y : System) : Type 0 where
  Did : (transaction : ℕ) (before : History y) (command : y.Command) (outcome : Outcome) (inverse : y.Change) (footprint : y.Footprint) → StackEntry y
  Savepoint : (transaction : ℕ) (before : History y) (name : Name) → StackEntry y

-- an open transaction; the newest stack entry stands first
pub record Transaction (y : System) : Type 0 where
  pub session : ℕ
  pub number : ℕ
  pub stack : List (StackEntry y)

-- the tree, the open transactions and the history, with the counts of what was begun and committed
pub record Machine (y : System) : Type 0 where
  pub tree : y.State
  -- the newest first
  pub transactions : List (Transaction y)
  pub begun : ℕ
  pub commits : ℕ
  pub history : History y
  pub bound : ℕ

-- the machine over an opening tree, with this bound of its history
abbrev pub opened : (y : System) → y.State → ℕ → Machine y
opened y o bound = record { tree = o; transactions = []; begun = 0; commits = 0; history = []; bound = bound }

-- the number and the stack of a session's open transaction
abbrev pub found : {y : System} → ℕ → List (Transaction y) → Option (ℕ × List (StackEntry y))
found s [] = None
found s (x ∷ xs) = cond (x.session == s) (Some (x.number, x.stack)) (found s xs)

-- t has this stack now
abbrev pub with_stack : {y : System} → ℕ → List (StackEntry y) → List (Transaction y) → List (Transaction y)
with_stack t l [] = []
with_stack t l (x ∷ xs) = record x { stack = cond (x.number == t) l x.stack } ∷ with_stack t l xs

-- without the transaction t
abbrev pub dropped : {y : System} → ℕ → List (Transaction y) → List (Transaction y)
dropped t [] = []
dropped t (x ∷ xs) = cond (x.number == t) (dropped t xs) (x ∷ dropped t xs)

-- the footprint clashes with one of these
abbrev pub hits : (y : System) → y.Footprint → List (StackEntry y) → Bool
hits y f [] = false
hits y f (Did t h c a d g ∷ l) = y.clashes g f || hits y f l
hits y f (Savepoint t h n ∷ l) = hits y f l

-- the oldest of these transactions that holds what clashes
abbrev pub stack_holder : (y : System) → y.Footprint → List (Transaction y) → Option ℕ
stack_holder y f [] = None
stack_holder y f (x ∷ xs) = found_or (stack_holder y f xs) (hits y f x.stack) x.number

-- a savepoint on the stack has this name
abbrev pub stack_has_savepoint : {y : System} → Name → List (StackEntry y) → Bool
stack_has_savepoint n [] = false
stack_has_savepoint n (Did t h c a d g ∷ l) = stack_has_savepoint n l
stack_has_savepoint n (Savepoint t h m ∷ l) = same_name m n || stack_has_savepoint n l

-- how many entries the stacks have
abbrev pub stack_entries : {y : System} → List (Transaction y) → ℕ
stack_entries [] = 0
stack_entries (x ∷ xs) = length x.stack + stack_entries xs

-- two more slots would exceed the bound, where one below 2 counts as 2: the records, one for each open transaction, one for
-- each stack entry
abbrev pub is_full_machine : {y : System} → Machine y → Bool
is_full_machine m = nat_lt (m.bound - 2) (length m.history + (length m.transactions + stack_entries m.transactions))

-- every inverse undone, the newest first
abbrev pub unwound : (y : System) → List (StackEntry y) → y.State → y.State
unwound y [] s = s
unwound y (Did t h c a d f ∷ l) s = unwound y l (y.undone d s)
unwound y (Savepoint t h n ∷ l) s = unwound y l s

-- down to the savepoint, which goes too: the stack and the tree that are left, and the answer; k commands were taken off before
abbrev pub back_to : (y : System) → Name → List (StackEntry y) → y.State → ℕ → List (StackEntry y) × y.State × Answer
back_to y n [] s k = ([], s, Refused NoSavepoint)
back_to y n (Did t h c a d f ∷ l) s k = back_to y n l (y.undone d s) (k + 1)
back_to y n (Savepoint t h m ∷ l) s k = cond (same_name m n) (l, s, WentBack k) (back_to y n l s k)

-- t has the stack that is left, in the tree that is left
abbrev pub went_back : (y : System) → Machine y → ℕ → List (StackEntry y) × y.State × Answer → Machine y × Answer
went_back y m t r = (record m { tree = r.1; transactions = with_stack t r.0 m.transactions }, r.2)

-- an accepted command is done, and stands on the stack with its inverse and its footprint
abbrev pub accepted : (y : System) → Machine y → ℕ → List (StackEntry y) → y.Command → Attempt y.Change → Machine y × Answer
accepted y m t l c (Refuse r) = (m, Refused r)
accepted y m t l c (Accept a d) =
    (record m { tree = y.done d m.tree; transactions = with_stack t (Did t m.history c a d (y.footprint c m.tree) ∷ l) m.transactions }, Gave a)

-- Busy where another transaction holds what clashes, else what the command does
abbrev pub done_unless_held : (y : System) → Machine y → ℕ → List (StackEntry y) → y.Command → Option ℕ → Machine y × Answer
done_unless_held y m t l c (Some u) = (m, Refused (Busy (record { 0 = u })))
done_unless_held y m t l c None = accepted y m t l c (y.effect c m.tree)

-- the newest stack entry is undone, where it is a command
abbrev pub newest_undone : (y : System) → Machine y → ℕ → List (StackEntry y) → Machine y × Answer
newest_undone y m t [] = (m, Refused NothingToUndo)
newest_undone y m t (Savepoint u h n ∷ l) = (m, Refused NothingToUndo)
newest_undone y m t (Did u h c a d f ∷ l) = (record m { tree = y.undone d m.tree; transactions = with_stack t l m.transactions }, Gave Done)

-- a request of the session with the open transaction t, whose stack is l
abbrev pub step_in : (y : System) → Machine y → ℕ → List (StackEntry y) → Request y → Machine y × Answer
step_in y m t l Begin = (m, Refused AlreadyOpen)
step_in y m t l (Do c) =
    cond (is_full_machine m) (m, Refused Full) (done_unless_held y m t l c (stack_holder y (y.footprint c m.tree) (dropped t m.transactions)))
step_in y m t l (Save n) =
    cond (stack_has_savepoint n l) (m, Refused NameTaken)
    (cond (is_full_machine m) (m, Refused Full) (record m { transactions = with_stack t (Savepoint t m.history n ∷ l) m.transactions }, Saved))
step_in y m t l (Back n) = cond (stack_has_savepoint n l) (went_back y m t (back_to y n l m.tree 0)) (m, Refused NoSavepoint)
step_in y m t l Undo = newest_undone y m t l
step_in y m t l Commit = (record m { transactions = dropped t m.transactions; commits = m.commits + 1 }, Committed (m.commits + 1))
step_in y m t l Abort = (record m { tree = unwound y l m.tree; transactions = dropped t m.transactions }, Aborted t)

-- a request of a session without one
abbrev pub step_out : (y : System) → Machine y → ℕ → Request y → Machine y × Answer
step_out y m s Begin =
    cond (is_full_machine m) (m, Refused Full)
    (record m { transactions = record { session = s; number = m.begun + 1; stack = [] } ∷ m.transactions; begun = m.begun + 1 }, Begun (m.begun + 1))
step_out y m s _ = (m, Refused NoTransaction)

-- a request of a session, by its open transaction, where it has one
abbrev pub step_at : (y : System) → Machine y → ℕ → Request y → Option (ℕ × List (StackEntry y)) → Machine y × Answer
step_at y m s r (Some p) = step_in y m p.0 p.1 r
step_at y m s r None = step_out y m s r

-- the number alone
abbrev pub found_number : {y : System} → Option (ℕ × List (StackEntry y)) → Option ℕ
found_number None = None
found_number (Some p) = Some p.0

-- with its record, where there is one
abbrev pub noted : {y : System} → Bool → ℕ → Request y → Option ℕ → Machine y × Answer → Machine y × Answer
noted true s r t p = (record p.0 { history = record { session = s; transaction = named_in t p.1; request = r; answer = p.1 } ∷ p.0.history }, p.1)
noted false s r t p = p

-- with its record, where the answer is one to be recorded
abbrev pub with_record : {y : System} → ℕ → Request y → Option ℕ → Machine y × Answer → Machine y × Answer
with_record s r t p = noted (is_recorded r p.1) s r t p

-- one request of a session: the machine after it, and the answer
abbrev pub step : (y : System) → Machine y → ℕ → Request y → Machine y × Answer
step y m s r = with_record s r (found_number (found s m.transactions)) (step_at y m s r (found s m.transactions))

-- a list of requests of any sessions, the first one first
abbrev pub steps : (y : System) → Machine y → List (ℕ × Request y) → Machine y
steps y m [] = m
steps y m (p ∷ ps) = steps y (step y m p.0 p.1).0 ps
