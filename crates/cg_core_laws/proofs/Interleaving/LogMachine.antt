-- The machine with a log: all that stands in the order of the records, in place of stacks. The machine of the definitions
-- keeps its stacks alone, and runs as this one does.
use Rattle.std.specs.Prelude.{ℕ, ◌+◌, ◌-◌, nat_lt, length, Bool, true, false, cond, List, [], ◌∷◌, ◌++◌, Option, Some, None}
use Rattle.cg_name.specs.Name.{Name, same_name}
use Rattle.cg_name.specs.declared.refusal.Refusal.TheVariants.{NoTransaction, AlreadyOpen, Full, Busy, NoSavepoint, NameTaken, NothingToUndo}
use Rattle.cg_model.specs.System.{System, Done, Attempt, Refuse, Accept}
use Rattle.cg_model.specs.History.{Request, Begin, Do, Save, Back, Undo, Commit, Abort, Answer, Begun, Gave, Saved, WentBack, Committed, Aborted, Refused, History, is_recorded, named_in}
use Rattle.cg_model.specs.Opens.{Opens, numbers, without, transaction_in}
use Rattle.cg_model.specs.Reply.{found_or}
use Rattle.cg_model.specs.Machine.{StackEntry, Did, Savepoint, hits, stack_has_savepoint}
use Rattle.cg_core_laws.proofs.Interleaving.RunsOfStackEntries.{only, cut}

-- the tree; what was done and stands, with the savepoints of the open transactions; what was committed, in commit order,
-- each newest first; the open transactions, each as its session and its number
pub record Log (y : System) : Type 0 where
  pub tree : y.State
  pub log : List (StackEntry y)
  pub done : List (StackEntry y)
  pub opens : Opens
  pub begun : ℕ
  pub commits : ℕ
  -- the newest first
  pub history : History y
  pub bound : ℕ

abbrev pub log_opened : (y : System) → y.State → ℕ → Log y
log_opened y o bound = record { tree = o; log = []; done = []; opens = []; begun = 0; commits = 0; history = []; bound = bound }

-- the oldest of these transactions that holds what clashes
abbrev pub log_holder : (y : System) → y.Footprint → List (StackEntry y) → List ℕ → Option ℕ
log_holder y f log [] = None
log_holder y f log (u ∷ os) = found_or (log_holder y f log os) (hits y f (only u log)) u

abbrev pub unmoved : (y : System) → StackEntry y → y.State → y.State
unmoved y (Did t th c a d f) s = y.undone d s
unmoved y (Savepoint t th n) s = s

-- the newest stack entry x of t is taken off
abbrev pub pop : (y : System) → Log y → ℕ → StackEntry y → Log y
pop y c t x = record c { tree = unmoved y x c.tree; log = cut t c.log }

abbrev pub pop_all : (y : System) → ℕ → List (StackEntry y) → Log y → Log y
pop_all y t [] c = c
pop_all y t (x ∷ l) c = pop_all y t l (pop y c t x)

-- down to the savepoint, which goes too
abbrev pub log_back_to : (y : System) → ℕ → Name → List (StackEntry y) → Log y → ℕ → Log y × Answer
log_back_to y t n [] c k = (c, Refused NoSavepoint)
log_back_to y t n (Did u uh b a d f ∷ l) c k = log_back_to y t n l (pop y c t (Did u uh b a d f)) (k + 1)
log_back_to y t n (Savepoint u uh m ∷ l) c k =
    cond (same_name m n) (pop y c t (Savepoint u uh m), WentBack k) (log_back_to y t n l (pop y c t (Savepoint u uh m)) k)

abbrev pub try_do : (y : System) → Log y → ℕ → y.Command → Attempt y.Change → Log y × Answer
try_do y c t b (Accept a d) = (record c { tree = y.done d c.tree; log = Did t c.history b a d (y.footprint b c.tree) ∷ c.log }, Gave a)
try_do y c t b (Refuse r) = (c, Refused r)

abbrev pub do_at : (y : System) → Log y → ℕ → y.Command → Option ℕ → Log y × Answer
do_at y c t b (Some u) = (c, Refused (Busy (record { 0 = u })))
do_at y c t b None = try_do y c t b (y.effect b c.tree)

abbrev pub undo_at : (y : System) → Log y → ℕ → List (StackEntry y) → Log y × Answer
undo_at y c t [] = (c, Refused NothingToUndo)
undo_at y c t (Savepoint u uh n ∷ l) = (c, Refused NothingToUndo)
undo_at y c t (Did u uh b a d f ∷ l) = (pop y c t (Did u uh b a d f), (Gave Done))

abbrev pub others : (y : System) → Log y → ℕ → List ℕ
others y c t = numbers (without t c.opens)

abbrev pub ended : (y : System) → Log y → ℕ → Log y
ended y c t = record c { opens = without t c.opens }

abbrev pub held : {y : System} → List (ℕ × ℕ) → List (StackEntry y) → ℕ
held [] log = 0
held (p ∷ ps) log = length (only p.1 log) + held ps log

-- too few slots are left
abbrev pub is_full_log : {y : System} → Log y → Bool
is_full_log c = nat_lt (c.bound - 2) (length c.history + (length c.opens + held c.opens c.log))

abbrev pub log_step_in : (y : System) → Log y → ℕ → ℕ → Request y → Log y × Answer
log_step_in y c s t Begin = (c, Refused AlreadyOpen)
log_step_in y c s t (Do b) = cond (is_full_log c) (c, Refused Full) (do_at y c t b (log_holder y (y.footprint b c.tree) c.log (others y c t)))
log_step_in y c s t (Save n) =
    cond (stack_has_savepoint n (only t c.log)) (c, Refused NameTaken) (cond (is_full_log c) (c, Refused Full) (record c { log = Savepoint t c.history n ∷ c.log }, Saved))
log_step_in y c s t (Back n) = cond (stack_has_savepoint n (only t c.log)) (log_back_to y t n (only t c.log) c 0) (c, Refused NoSavepoint)
log_step_in y c s t Undo = undo_at y c t (only t c.log)
log_step_in y c s t Commit =
    (record c { done = only t c.log ++ c.done; opens = without t c.opens; commits = c.commits + 1 }, Committed (c.commits + 1))
log_step_in y c s t Abort = (ended y (pop_all y t (only t c.log) c) t, Aborted t)

abbrev pub log_step_out : (y : System) → Log y → ℕ → Request y → Log y × Answer
log_step_out y c s Begin =
    cond (is_full_log c) (c, Refused Full) (record c { opens = (s, c.begun + 1) ∷ c.opens; begun = c.begun + 1 }, Begun (c.begun + 1))
log_step_out y c s _ = (c, Refused NoTransaction)

abbrev pub log_step_at : (y : System) → Log y → ℕ → Request y → Option ℕ → Log y × Answer
log_step_at y c s r (Some t) = log_step_in y c s t r
log_step_at y c s r None = log_step_out y c s r

-- with its record
abbrev pub log_noted : {y : System} → Bool → ℕ → Request y → Option ℕ → Log y × Answer → Log y × Answer
log_noted true s r h p = (record p.0 { history = record { session = s; transaction = named_in h p.1; request = r; answer = p.1 } ∷ p.0.history }, p.1)
log_noted false s r h p = p

abbrev pub log_note : {y : System} → ℕ → Request y → Option ℕ → Log y × Answer → Log y × Answer
log_note s r h p = log_noted (is_recorded r p.1) s r h p

abbrev pub log_step : (y : System) → Log y → ℕ → Request y → Log y × Answer
log_step y c s r = log_note s r (transaction_in s c.opens) (log_step_at y c s r (transaction_in s c.opens))

-- a list of steps of any sessions, the first one first
abbrev pub log_steps : (y : System) → Log y → List (ℕ × Request y) → Log y
log_steps y c [] = c
log_steps y c (p ∷ ps) = log_steps y (log_step y c p.0 p.1).0 ps
