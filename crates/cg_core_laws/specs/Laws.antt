-- The main theorem, of the machine over the tree of control groups.
use Rattle.std.specs.Prelude.{◌≡◌, ◌≢◌, ◌↔◌, ℕ, ◌≤◌, true, false, List, Some}
use Rattle.std.specs.List.{AllByRecursion}
use Rattle.cg_name.specs.declared.refusal.Refusal.TheVariants.{Busy}
use Rattle.cg_model.specs.Tree.{Tree}
use Rattle.cg_model.specs.Sound.{Sound}
use Rattle.cg_model.specs.Command.{Command}
use Rattle.cg_model.specs.Footprint.{footprint}
use Rattle.cg_model.specs.Cgroups.{cgroups}
use Rattle.cg_model.specs.History.{Request, Do, Refused}
use Rattle.cg_model.specs.Opens.{numbers, among, without, transaction_in, opens}
use Rattle.cg_model.specs.Live.{live}
use Rattle.cg_model.specs.Reply.{clashes_with, is_full}
use Rattle.cg_model.specs.Machine.{Machine, opened, step, steps}
use Rattle.cg_model.specs.Output.{answers}
use Rattle.cg_model.specs.Room.{inverse}
use Rattle.cg_model_laws.specs.Laws.{KeysDontTouch}
use Rattle.cg_core_laws.specs.Room.{RoomKept, CommitSweeps}
use Rattle.cg_core_laws.specs.LettingGo.{NewestLetsGo, OldestLetsGo}
use Rattle.cg_core_laws.specs.Stacks.{IsOfHistory}
use Rattle.cg_core_laws.specs.MachineOf.{machine_of}
use Rattle.cg_core_laws.specs.Ends.{EndsAll}
use Rattle.cg_core_laws.specs.Reordered.{DropsOut, NewestClashesWithNone, PulledToTheFront}
use Rattle.cg_core_laws.specs.Serial.{AreProper, IsSerial, IsFaithful, GoesBack, OthersStay, CommitsStay}

-- what holds after every list of steps of any sessions, interleaved in any way, from any sound tree, whatever the bound
abbrev pub AfterAnySteps : (Tree → Machine cgroups → Type 0) → Type 0
AfterAnySteps P = (opening : Tree) (bound : ℕ) (requests : List (ℕ × Request cgroups)) → Sound opening → AreProper requests → P opening (steps cgroups (opened cgroups opening bound) requests)

-- the tree, and the orders in which the transactions may run one after another
abbrev pub Serial : Type 0
Serial = AfterAnySteps (λ opening m. IsSerial cgroups opening m)

-- the history is legal, and the answers are those that it gives
abbrev pub Faithful : Type 0
Faithful = AfterAnySteps (λ opening m. IsFaithful cgroups opening m)

-- stacks, numbers and counts are those of the history
abbrev pub OfHistory : Type 0
OfHistory = AfterAnySteps (λ opening m. IsOfHistory cgroups opening m)

-- and so it is that of its history, whole
abbrev pub WholeOfHistory : Type 0
WholeOfHistory = AfterAnySteps (λ opening m. m ≡ machine_of opening m.bound m.history)

-- the bound stays that of the opening
abbrev pub BoundKept : Type 0
BoundKept = (opening : Tree) (bound : ℕ) (requests : List (ℕ × Request cgroups)) → AreProper requests → (steps cgroups (opened cgroups opening bound) requests).bound ≡ bound

-- each session with an open transaction goes back, and ends it, unrefused
abbrev pub GoBack : Machine cgroups → Type 0
GoBack m = (s t : ℕ) → transaction_in s (opens m.history) ≡ Some t → GoesBack cgroups m s t

-- so it is after any steps
abbrev pub GoingBack : Type 0
GoingBack = AfterAnySteps (λ opening m. GoBack m)

-- no step changes the stack of another transaction
abbrev pub OthersUntouched : Type 0
OthersUntouched = AfterAnySteps (λ opening m. OthersStay cgroups m)

-- no step changes a commit's tree
abbrev pub CommitsKept : Type 0
CommitsKept = AfterAnySteps (λ opening m. CommitsStay cgroups m)

-- u is the least other open transaction that holds what clashes with the command's footprint
pub record IsLeastInTheWay (opening : Tree) (m : Machine cgroups) (t : ℕ) (c : Command) (u : ℕ) : Type 0 where
  pub other : among u (numbers (without t (opens m.history))) ≡ true
  pub clashes : clashes_with cgroups opening (footprint c m.tree) (live u m.history) ≡ true
  pub least : (v : ℕ) → among v (numbers (without t (opens m.history))) ≡ true → clashes_with cgroups opening (footprint c m.tree) (live v m.history) ≡ true → u ≤ v

-- Busy is answered exactly where a transaction is in the way and no earlier refusal applies: the session has a transaction,
-- and the history isn't full
abbrev pub IsBusyExactly : Tree → Machine cgroups → Type 0
IsBusyExactly opening m = (s t : ℕ) → transaction_in s (opens m.history) ≡ Some t → is_full m.bound m.history ≡ false → (c : Command) (u : ℕ)
    → ((step cgroups m s (Do c)).1 ≡ Refused (Busy (record { 0 = u }))) ↔ IsLeastInTheWay opening m t c u

-- so it is after any steps
abbrev pub BusyExactly : Type 0
BusyExactly = AfterAnySteps IsBusyExactly

-- no key that a live command changed touches a key that a live command of another open transaction changed
abbrev pub LiveKeysApart : Tree → Machine cgroups → Type 0
LiveKeysApart opening m = (t u : ℕ) → among t (numbers (opens m.history)) ≡ true → among u (numbers (opens m.history)) ≡ true → t ≢ u
    → AllByRecursion (λ x. AllByRecursion (λ z. KeysDontTouch (inverse opening x) (inverse opening z)) (live u m.history)) (live t m.history)

-- so it is after any steps
abbrev pub KeysOfOthersApart : Type 0
KeysOfOthersApart = AfterAnySteps LiveKeysApart

-- a command that nothing later clashes with can be taken out of a run
abbrev pub Drop : Type 0
Drop = (opening : Tree) → DropsOut cgroups opening

-- and so can the newest command of each open transaction
abbrev pub NewestDrop : Type 0
NewestDrop = AfterAnySteps (λ opening m. NewestClashesWithNone cgroups opening m)

-- any order of open transactions is reached by pulling them to the front, one after another
abbrev pub Front : Type 0
Front = AfterAnySteps (λ opening m. PulledToTheFront cgroups opening m)

-- the machine after requests that are answered is the one after these steps
abbrev pub AnswersAreSteps : Type 0
AnswersAreSteps = (m : Machine cgroups) (requests : List (ℕ × Request cgroups)) → (answers cgroups m requests).1 ≡ steps cgroups m requests

-- at the end of a schedule the aborts are accepted, nothing is open after them, and what was committed is left
abbrev pub SchedulesEnd : Type 0
SchedulesEnd = AfterAnySteps (λ opening m. EndsAll cgroups opening m)

-- every live inverse has room when its turn comes, and what nobody needs may be swept
abbrev pub Roomy : Type 0
Roomy = AfterAnySteps RoomKept

-- so it is while a commit drains its stack
abbrev pub Sweeping : Type 0
Sweeping = AfterAnySteps CommitSweeps

-- a lock on a group's subtree tells whether going back may still need the group's entry
abbrev pub LettingGo : Type 0
LettingGo = AfterAnySteps NewestLetsGo

-- so it does while a commit drains its stack
abbrev pub Draining : Type 0
Draining = AfterAnySteps OldestLetsGo
