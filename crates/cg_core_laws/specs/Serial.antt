-- What holds of the machine after any steps.
use Rattle.std.specs.Prelude.{◌≡◌, ℕ, ◌+◌, ◌≤◌, true, false, List, [], ◌∷◌, Option, Some, None}
use Rattle.std.specs.List.{AllByRecursion}
use Rattle.cg_name.specs.Name.{Name}
use Rattle.cg_model.specs.System.{System, Outcome, Done}
use Rattle.cg_model.specs.History.{Request, Back, Undo, Commit, Abort, Gave, WentBack, Committed, Aborted, History, is_recorded, named_in, IsProperRequest}
use Rattle.cg_model.specs.Opens.{numbers, among, without, transaction_in, opens, commits}
use Rattle.cg_model.specs.Live.{Ran, Items, below, live, survivors, committed, stacked}
use Rattle.cg_model.specs.Run.{run_items, Accepted, tree_of, committed_through}
use Rattle.cg_model.specs.Reply.{clashes_with, holder, has_savepoint, commands_above, slots, reply, Legal}
use Rattle.cg_model.specs.Machine.{Machine, step}
use Rattle.cg_core_laws.specs.Unwind.{Unwinds}

-- each number once
abbrev pub OnceEach : List ℕ → Type 0
OnceEach [] = Unit {0}
OnceEach (t ∷ ts) = (among t ts ≡ false) × OnceEach ts

-- an order of the open transactions
abbrev pub IsOrder : {y : System} → List ℕ → History y → Type 0
IsOrder ts h = OnceEach ts × ((u : ℕ) → among u ts ≡ among u (numbers (opens h)))

-- all are open
abbrev pub AreOpen : {y : System} → List ℕ → History y → Type 0
AreOpen ts h = AllByRecursion (λ t. among t (numbers (opens h)) ≡ true) ts

-- none of these transactions clashes; or the one that is named does, and is the least that does
abbrev pub IsLeastHolder : (y : System) → y.State → y.Footprint → History y → List ℕ → Option ℕ → Type 0
IsLeastHolder y o f h us None = (u : ℕ) → among u us ≡ true → clashes_with y o f (live u h) ≡ false
IsLeastHolder y o f h us (Some v) =
    (among v us ≡ true) × (clashes_with y o f (live v h) ≡ true) × ((u : ℕ) → among u us ≡ true → clashes_with y o f (live u h) ≡ true → v ≤ u)

-- the tree, and the orders in which the history may be run again
pub record IsSerial (y : System) (o : y.State) (m : Machine y) : Type 0 where
  -- the tree is sound, and is the opening tree changed by the surviving commands alone, with their recorded answers
  pub sound : y.Sound m.tree
  pub tree : m.tree ≡ tree_of y o m.history
  pub accepted : Accepted y o (survivors m.history)
  -- the committed transactions whole in commit order and then each open one, in any order, are accepted with their recorded
  -- answers and give the tree
  pub orders : (ts : List ℕ) → IsOrder ts m.history → Accepted y o (stacked ts m.history (committed m.history)) × (run_items y o (stacked ts m.history (committed m.history)) ≡ m.tree)
  -- every live inverse fits when its turn comes, in whatever interleaving open transactions are unwound
  pub unwinds : (ts : List ℕ) → AreOpen ts m.history → Unwinds y o (λ t. live t m.history) m.tree ts
  -- what was committed runs by itself, through each commit
  pub commits : (n : ℕ) → Accepted y o (committed_through n m.history)

-- the history, and the answers to come
pub record IsFaithful (y : System) (o : y.State) (m : Machine y) : Type 0 where
  pub legal : Legal y o m.bound m.history
  -- each answer is the reply that the history gives
  pub replies : (s : ℕ) (r : Request y) → (step y m s r).1 ≡ reply y o m.bound m.history s r
  -- one record exactly where the answer is recorded, and else nothing changes
  pub recorded : (s : ℕ) (r : Request y) → is_recorded r (step y m s r).1 ≡ true → (step y m s r).0.history ≡ record { session = s; transaction = named_in (transaction_in s (opens m.history)) (step y m s r).1; request = r; answer = (step y m s r).1 } ∷ m.history
  pub unrecorded : (s : ℕ) (r : Request y) → is_recorded r (step y m s r).1 ≡ false → (step y m s r).0 ≡ m
  -- the transaction that Busy names is the least other open one whose footprint clashes, and Busy is not answered without one
  pub busy : (t : ℕ) (f : y.Footprint) → IsLeastHolder y o f m.history (numbers (without t (opens m.history))) (holder y o f m.history (numbers (without t (opens m.history))))
  -- the records and the reserved slots are within the bound, so that whatever ends or goes back has its slot
  pub within_bound : 2 ≤ m.bound → slots m.history ≤ m.bound

-- going back: it is never refused, whatever the bound, and takes off exactly its own items
pub record GoesBack (y : System) (m : Machine y) (s t : ℕ) : Type 0 where
  pub undo : (h : History y) (c : y.Command) (a : Outcome) (l : Items y) → live t m.history ≡ Ran t h c a ∷ l → ((step y m s Undo).1 ≡ Gave Done) × (live t (step y m s Undo).0.history ≡ l)
  pub back : (n : Name) → has_savepoint n (live t m.history) ≡ true → ((step y m s (Back n)).1 ≡ WentBack (commands_above n 0 (live t m.history))) × (live t (step y m s (Back n)).0.history ≡ below n (live t m.history))
  pub abort : ((step y m s Abort).1 ≡ Aborted t) × (live t (step y m s Abort).0.history ≡ [])
  pub commit : ((step y m s Commit).1 ≡ Committed (commits m.history + 1)) × (live t (step y m s Commit).0.history ≡ live t m.history)

-- a step of a session leaves the stack of every transaction that isn't its own
abbrev pub OthersStay : (y : System) → Machine y → Type 0
OthersStay y m = (s : ℕ) (r : Request y) (u : ℕ) → ¬ (transaction_in s (opens m.history) ≡ Some u) → live u (step y m s r).0.history ≡ live u m.history

-- steps of proper commands
abbrev pub AreProper : {y : System} → List (ℕ × Request y) → Type 0
AreProper steps = AllByRecursion (λ p. IsProperRequest p.1) steps

-- a commit's tree stays as it is, whatever comes after
abbrev pub CommitsStay : (y : System) → Machine y → Type 0
CommitsStay y m = (s : ℕ) (r : Request y) (n : ℕ) → n ≤ commits m.history → committed_through n (step y m s r).0.history ≡ committed_through n m.history
