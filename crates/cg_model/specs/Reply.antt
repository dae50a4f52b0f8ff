-- The answer to the next request, from the history alone, by the order of refusals; and legal histories.
use Rattle.std.specs.Prelude.{◌≡◌, ℕ, ◌+◌, ◌-◌, nat_lt, ◌||◌, Bool, true, false, cond, List, [], ◌∷◌, length, Option, Some, None}
use Rattle.std.specs.List.{list_any}
use Rattle.cg_name.specs.Name.{Name, same_name}
use Rattle.cg_name.specs.declared.refusal.Refusal.TheVariants.{NoTransaction, AlreadyOpen, Full, Busy, NoSavepoint, NameTaken, NothingToUndo}
use Rattle.cg_model.specs.System.{System, Done, Attempt, Refuse, Accept}
use Rattle.cg_model.specs.History.{Request, Begin, Do, Save, Back, Undo, Commit, Abort, Answer, Begun, Gave, Saved, WentBack, Committed, Aborted, Refused, History, is_recorded, named_in}
use Rattle.cg_model.specs.Opens.{Opens, numbers, without, transaction_in, opens, begins, commits}
use Rattle.cg_model.specs.Live.{Ran, AtSavepoint, Items, live}
use Rattle.cg_model.specs.Run.{tree_of, own_tree, Defined}

-- the footprint of each command here, which it had in the tree of the records before it
abbrev pub footprints : (y : System) → y.State → Items y → List y.Footprint
footprints y o [] = []
footprints y o (Ran t h c a ∷ l) = y.footprint c (tree_of y o h) ∷ footprints y o l
footprints y o (AtSavepoint t h n ∷ l) = footprints y o l

-- what a transaction holds: the footprints of its live commands
abbrev pub live_footprints : (y : System) → y.State → ℕ → History y → List y.Footprint
live_footprints y o t h = footprints y o (live t h)

-- the footprint clashes with that of a command here
abbrev pub clashes_with : (y : System) → y.State → y.Footprint → Items y → Bool
clashes_with y o f l = list_any (λ g. y.clashes g f) (footprints y o l)

-- the one that was found, or else u where the test passes
abbrev pub found_or : Option ℕ → Bool → ℕ → Option ℕ
found_or (Some v) b u = Some v
found_or None true u = Some u
found_or None false u = None

-- the oldest of these transactions with a live command whose footprint clashes; the newest stands first
abbrev pub holder : (y : System) → y.State → y.Footprint → History y → List ℕ → Option ℕ
holder y o f h [] = None
holder y o f h (u ∷ us) = found_or (holder y o f h us) (clashes_with y o f (live u h)) u

-- a savepoint has this name
abbrev pub has_savepoint : {y : System} → Name → Items y → Bool
has_savepoint n [] = false
has_savepoint n (Ran t h c a ∷ l) = has_savepoint n l
has_savepoint n (AtSavepoint t h m ∷ l) = same_name m n || has_savepoint n l

-- k and the number of commands above the savepoint with this name
abbrev pub commands_above : {y : System} → Name → ℕ → Items y → ℕ
commands_above n k [] = k
commands_above n k (Ran t h c a ∷ l) = commands_above n (k + 1) l
commands_above n k (AtSavepoint t h m ∷ l) = cond (same_name m n) k (commands_above n k l)

-- the items on the stacks of open transactions
abbrev pub live_count : {y : System} → Opens → History y → ℕ
live_count [] h = 0
live_count (p ∷ ps) h = length (live p.1 h) + live_count ps h

-- slots in use: the records, one for the end of each open transaction, one for each item on its stack
abbrev pub slots : {y : System} → History y → ℕ
slots h = length h + (length (opens h) + live_count (opens h) h)

-- two more slots would exceed the bound, where one below 2 counts as 2
abbrev pub is_full : {y : System} → ℕ → History y → Bool
is_full bound h = nat_lt (bound - 2) (slots h)

-- Undo takes a command off, and no savepoint
abbrev pub undo_reply : {y : System} → Items y → Answer
undo_reply [] = Refused NothingToUndo
undo_reply (Ran t h c a ∷ l) = Gave Done
undo_reply (AtSavepoint t h n ∷ l) = Refused NothingToUndo

-- the answer by what the command does
abbrev pub attempt_reply : {D : Type 0} → Attempt D → Answer
attempt_reply (Refuse r) = Refused r
attempt_reply (Accept a d) = Gave a

-- Busy where another transaction stands in the way, else what the command does
abbrev pub command_reply : {D : Type 0} → Option ℕ → Attempt D → Answer
command_reply (Some u) e = Refused (Busy (record { 0 = u }))
command_reply None e = attempt_reply e

-- the answer to a session with the open transaction t
abbrev pub reply_in : (y : System) → y.State → ℕ → History y → ℕ → Request y → Answer
reply_in y o bound h t Begin = Refused AlreadyOpen
reply_in y o bound h t (Do c) =
    cond (is_full bound h) (Refused Full)
    (command_reply (holder y o (y.footprint c (tree_of y o h)) h (numbers (without t (opens h)))) (y.effect c (own_tree y o t h)))
reply_in y o bound h t (Save n) = cond (has_savepoint n (live t h)) (Refused NameTaken) (cond (is_full bound h) (Refused Full) Saved)
reply_in y o bound h t (Back n) = cond (has_savepoint n (live t h)) (WentBack (commands_above n 0 (live t h))) (Refused NoSavepoint)
reply_in y o bound h t Undo = undo_reply (live t h)
reply_in y o bound h t Commit = Committed (commits h + 1)
reply_in y o bound h t Abort = Aborted t

-- the answer to a session without one
abbrev pub reply_out : (y : System) → ℕ → History y → Request y → Answer
reply_out y bound h Begin = cond (is_full bound h) (Refused Full) (Begun (begins h + 1))
reply_out y bound h _ = Refused NoTransaction

-- the answer to a session, by its open transaction, where it has one
abbrev pub reply_at : (y : System) → y.State → ℕ → History y → Option ℕ → Request y → Answer
reply_at y o bound h (Some t) r = reply_in y o bound h t r
reply_at y o bound h None r = reply_out y bound h r

-- the answer to the next request of a session
abbrev pub reply : (y : System) → y.State → ℕ → History y → ℕ → Request y → Answer
reply y o bound h s r = reply_at y o bound h (transaction_in s (opens h)) r

-- every record is one to be recorded, answers as the records before it say, and names its transaction; and its trees are defined
abbrev pub Legal : (y : System) → y.State → ℕ → History y → Type 0
Legal y o bound [] = Unit {0}
Legal y o bound (r ∷ h) =
    (is_recorded r.request r.answer ≡ true)
    × (r.answer ≡ reply y o bound h r.session r.request)
    × (r.transaction ≡ named_in (transaction_in r.session (opens h)) r.answer)
    × Defined y o (r ∷ h)
    × Legal y o bound h
