-- Requests, answers and the records of a history (this project's own choice, as all that follows).
use Rattle.std.specs.Prelude.{ℕ, Bool, true, false, List, Option, Some, None}
use Rattle.cg_name.specs.declared.refusal.Refusal.{Refusal}
use Rattle.cg_name.specs.declared.refusal.Refusal.TheVariants.{Busy, NoGroup, Exists, IsRoot, HasChildren, HasProcesses, NoProcess, Controlled, Unavailable, InUse, NoFile, TooMany, TooDeep}
use Rattle.cg_model.specs.System.{System, Outcome}

-- what a session asks for
pub data Request (y : System) : Type 0 where
  Begin : Request y
  Do : y.Command → Request y
  -- set a savepoint with a name, and go back to it
  Save Back : List ℕ → Request y
  -- take the newest command off
  Undo : Request y
  Commit Abort : Request y

-- what a request is given
pub data Answer : Type 0 where
  -- the number of the transaction
  Begun : ℕ → Answer
  -- a command's outcome; Undo is done
  Gave : Outcome → Answer
  Saved : Answer
  -- how many commands were taken off
  WentBack : ℕ → Answer
  -- the number of the commit
  Committed : ℕ → Answer
  -- the number of the transaction
  Aborted : ℕ → Answer
  Refused : Refusal → Answer

-- one request of a session in a transaction, and its answer
pub record Record (y : System) : Type 0 where
  pub session : ℕ
  pub transaction : ℕ
  pub request : Request y
  pub answer : Answer

-- the records, the newest first
abbrev pub History : System → Type 0
History y = List (Record y)

-- a refusal by a command's own checks
abbrev pub is_own_check : Refusal → Bool
is_own_check NoGroup = true
is_own_check Exists = true
is_own_check IsRoot = true
is_own_check HasChildren = true
is_own_check HasProcesses = true
is_own_check NoProcess = true
is_own_check Controlled = true
is_own_check (Unavailable c) = true
is_own_check (InUse c) = true
is_own_check NoFile = true
is_own_check TooMany = true
is_own_check TooDeep = true
is_own_check _ = false

-- a refusal that a command meets in its transaction: a lock, or one of its own checks
abbrev pub is_command_refusal : Refusal → Bool
is_command_refusal (Busy t) = true
is_command_refusal r = is_own_check r

-- what is recorded: each accepted request, and a command with the refusals that it met
abbrev pub is_recorded : {y : System} → Request y → Answer → Bool
is_recorded (Do c) (Refused r) = is_command_refusal r
is_recorded Begin (Refused r) = false
is_recorded (Save n) (Refused r) = false
is_recorded (Back n) (Refused r) = false
is_recorded Undo (Refused r) = false
is_recorded Commit (Refused r) = false
is_recorded Abort (Refused r) = false
is_recorded _ _ = true

-- the transaction that a record names: the session's open one, or the one that was begun
abbrev pub named_in : Option ℕ → Answer → ℕ
named_in (Some t) a = t
named_in None (Begun t) = t
named_in None _ = 0

-- requests whose commands are proper
abbrev pub IsProperRequest : {y : System} → Request y → Type 0
IsProperRequest {y} (Do c) = y.Proper c
IsProperRequest _ = Unit {0}
