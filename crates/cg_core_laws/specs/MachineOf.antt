-- The machine that a history gives, whole: what it is at every time is told by the opening tree, the bound and the records.
use Rattle.std.specs.Prelude.{◌≡◌, ℕ, cond, List, ◌∷◌, map}
use Rattle.cg_model.specs.Tree.{Tree}
use Rattle.cg_model.specs.Sound.{Sound}
use Rattle.cg_model.specs.Footprint.{footprint}
use Rattle.cg_model.specs.Cgroups.{cgroups}
use Rattle.cg_model.specs.History.{Request, Answer, History, is_recorded, named_in, IsProperRequest}
use Rattle.cg_model.specs.Opens.{opens, begins, commits, transaction_in}
use Rattle.cg_model.specs.Live.{Item, Ran, AtSavepoint, live}
use Rattle.cg_model.specs.Run.{tree_of}
use Rattle.cg_model.specs.Room.{inverse}
use Rattle.cg_model.specs.Reply.{reply}
use Rattle.cg_model.specs.Machine.{StackEntry, Did, Savepoint, Transaction, Machine, opened, step, steps}
use Rattle.cg_core_laws.specs.Serial.{AreProper}

-- an item with the inverse and the footprint that its command had in the tree of the records before it
abbrev pub entry_of : Tree → Item cgroups → StackEntry cgroups
entry_of O (Ran t h c a) = Did t h c a (inverse O (Ran t h c a)) (footprint c (tree_of cgroups O h))
entry_of O (AtSavepoint t h n) = Savepoint t h n

-- an open transaction, by its session and its number: what stands of it
abbrev pub transaction_of : Tree → History cgroups → ℕ × ℕ → Transaction cgroups
transaction_of O h p = record { session = p.0; number = p.1; stack = map (entry_of O) (live p.1 h) }

abbrev pub machine_of : Tree → ℕ → History cgroups → Machine cgroups
machine_of O bound h = record {
  tree = tree_of cgroups O h;
  transactions = map (transaction_of O h) (opens h);
  begun = begins h;
  commits = commits h;
  history = h;
  bound = bound;
}

-- a history that steps of proper requests lead to
pub record Reached (O : Tree) (bound : ℕ) (h : History cgroups) : Type 0 where
  pub requests : List (ℕ × Request cgroups)
  pub proper : AreProper requests
  pub leads : steps cgroups (opened cgroups O bound) requests ≡ machine_of O bound h

-- the record of a request and its answer, behind these
abbrev pub with_record : History cgroups → ℕ → Request cgroups → Answer → History cgroups
with_record h s r a = record { session = s; transaction = named_in (transaction_in s (opens h)) a; request = r; answer = a } ∷ h

-- the history after a request: with its record, where the answer is one to be recorded
abbrev pub history_after : Tree → ℕ → History cgroups → ℕ → Request cgroups → History cgroups
history_after O bound h s r = let a = reply cgroups O bound h s r in cond (is_recorded r a) (with_record h s r a) h

-- a step from a history that was reached: the answer is the reply, and the machine after it is that of the history after it
pub record StepsOn (O : Tree) (bound : ℕ) (h : History cgroups) (s : ℕ) (r : Request cgroups) : Type 0 where
  pub answer : (step cgroups (machine_of O bound h) s r).1 ≡ reply cgroups O bound h s r
  pub machine : (step cgroups (machine_of O bound h) s r).0 ≡ machine_of O bound (history_after O bound h s r)
  pub reached : Reached O bound (history_after O bound h s r)

-- the law of steps from a history
abbrev pub StepsByHistory : Type 0
StepsByHistory = (O : Tree) (bound : ℕ) (h : History cgroups) (s : ℕ) (r : Request cgroups) → Sound O → Reached O bound h → IsProperRequest r → StepsOn O bound h s r
