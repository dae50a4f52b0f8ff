-- The commands of the committed scripts, by the indices of their records.
use Rattle.std.specs.Prelude.{◌≡◌, ◌≢◌, ℕ, ◌+◌, ◌<◌, ◌≤◌, ◌==◌, true, cond, List, [], ◌∷◌, ◌++◌, length, map, Option, Some, None}
use Rattle.std.specs.List.{AllByRecursion}
use Rattle.cg_model.specs.System.{System, Outcome, Accept}
use Rattle.cg_model.specs.Cgroups.{cgroups}
use Rattle.cg_model.specs.History.{Request, Do, Answer, Gave, History}
use Rattle.cg_model.specs.Opens.{among, commits}
use Rattle.cg_model.specs.Live.{Ran, AtSavepoint, Items, scripts}
use Rattle.cg_model.specs.Run.{state_after, commit_tree}
use Rattle.cg_core_laws.specs.Laws.{AfterAnySteps}

-- where the commands on a stack have their records: the indices of these, the oldest first
abbrev pub places : {y : System} → Items y → List ℕ
places [] = []
places (Ran t h c a ∷ l) = places l ++ length h ∷ []
places (AtSavepoint t h n ∷ l) = places l

-- the commands on a stack, the oldest first
abbrev pub commands_of : {y : System} → Items y → List y.Command
commands_of [] = []
commands_of (Ran t h c a ∷ l) = commands_of l ++ c ∷ []
commands_of (AtSavepoint t h n ∷ l) = commands_of l

-- the k-th of these lists, counted from 1 and from the last one, which is the oldest; empty where there is none
abbrev pub numbered : {A : Type 0} → ℕ → List (List A) → List A
numbered k [] = []
numbered k (l ∷ ls) = cond (length (l ∷ ls) == k) l (numbered k ls)

-- which of these lists has n, the newest of them, counted likewise; 0 where none has
abbrev pub number_of : ℕ → List (List ℕ) → ℕ
number_of n [] = 0
number_of n (l ∷ ls) = cond (among n l) (length (l ∷ ls)) (number_of n ls)

-- where the commands of each committed script have their records, of the newest script first
abbrev pub committed_places : {y : System} → History y → List (List ℕ)
committed_places h = map places (scripts h)

-- the k-th committed script
abbrev pub script : {y : System} → ℕ → History y → Items y
script k h = numbered k (scripts h)

-- where its commands have their records
abbrev pub script_places : {y : System} → ℕ → History y → List ℕ
script_places k h = numbered k (committed_places h)

-- its commands
abbrev pub script_commands : {y : System} → ℕ → History y → List y.Command
script_commands k h = commands_of (script k h)

-- k where the record at that index is a command of the k-th committed script, and 0 otherwise
abbrev pub commit_of : {y : System} → ℕ → History y → ℕ
commit_of n h = number_of n (committed_places h)

-- the command of a request that was accepted
abbrev pub accepted_command : {y : System} → Request y → Answer → Option y.Command
accepted_command (Do c) (Gave a) = Some c
accepted_command _ _ = None

-- the command of the record at an index, where it is one that was accepted; the oldest record has index 0
abbrev pub command_at : {y : System} → History y → ℕ → Option y.Command
command_at [] n = None
command_at (r ∷ h) n = cond (length h == n) (accepted_command r.request r.answer) (command_at h n)

-- each is less than those after it
abbrev pub GoUp : List ℕ → Type 0
GoUp [] = Unit {0}
GoUp (n ∷ ns) = AllByRecursion (λ m. n < m) ns × GoUp ns

-- the state after commands in turn, the first one first
abbrev pub after_commands : (y : System) → y.State → List y.Command → y.State
after_commands y s [] = s
after_commands y s (c ∷ cs) = after_commands y (state_after y (y.effect c s) s) cs

-- each is accepted in its turn
abbrev pub AreAccepted : (y : System) → y.State → List y.Command → Type 0
AreAccepted y s [] = Unit {0}
AreAccepted y s (c ∷ cs) = ((a : Outcome) × (d : y.Change) × (y.effect c s ≡ Accept a d)) × AreAccepted y (state_after y (y.effect c s) s) cs

-- the places of the scripts of a history are those of their commands
pub record ArePlaces (y : System) (h : History y) : Type 0 where
  -- there is one list of places for each commit
  pub count : length (committed_places h) ≡ commits h
  -- the commands of the records at these places are those of the script, in their order
  pub commands : (k : ℕ) → map (command_at h) (script_places k h) ≡ map Some (script_commands k h)
  pub ascending : (k : ℕ) → GoUp (script_places k h)
  -- each is the index of a record
  pub within : (k : ℕ) → AllByRecursion (λ n. n < length h) (script_places k h)
  -- the script that an index is said to be of has it
  pub in_script : (n : ℕ) → commit_of n h ≢ 0 → among n (script_places (commit_of n h) h) ≡ true

-- so it is of every history
abbrev pub PlacesOfCommands : Type 0
PlacesOfCommands = (h : History cgroups) → ArePlaces cgroups h

-- a script stays as it is, whatever comes after
abbrev pub ScriptsStay : Type 0
ScriptsStay = (newer h : History cgroups) (k : ℕ) → k ≤ commits h → (script k (newer ++ h) ≡ script k h) × (script_places k (newer ++ h) ≡ script_places k h)

-- the commits of a history, one after another
pub record AreCommits (y : System) (o : y.State) (h : History y) : Type 0 where
  -- a record is a command of one committed script at most, and that is the one that is told
  pub of_script : (k n : ℕ) → among n (script_places k h) ≡ true → commit_of n h ≡ k
  -- the tree of no commit is the opening one, and that of k + 1 commits is that of k, changed by the commands of the next script
  pub opening : commit_tree y o 0 h ≡ o
  pub next : (k : ℕ) → k < commits h → commit_tree y o (k + 1) h ≡ after_commands y (commit_tree y o k h) (script_commands (k + 1) h)
  -- they are accepted in it, one after another
  pub accepted : (k : ℕ) → k < commits h → AreAccepted y (commit_tree y o k h) (script_commands (k + 1) h)

-- so it is after any steps
abbrev pub CommitsByCommands : Type 0
CommitsByCommands = AfterAnySteps (λ opening m. AreCommits cgroups opening m.history)
