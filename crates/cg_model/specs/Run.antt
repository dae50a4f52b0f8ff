-- Running commands, and the trees of a history.
use Rattle.std.specs.Prelude.{◌≡◌, ℕ, nat_le, true, cond, [], ◌∷◌, ◌++◌}
use Rattle.cg_model.specs.System.{System, Attempt, Refuse, Accept}
use Rattle.cg_model.specs.History.{History}
use Rattle.cg_model.specs.Opens.{numbers, among, opens, commits}
use Rattle.cg_model.specs.Live.{Ran, AtSavepoint, Items, live, survivors, committed}

-- the state after a command; a refusal leaves it
abbrev pub state_after : (y : System) → Attempt y.Change → y.State → y.State
state_after y (Refuse r) s = s
state_after y (Accept a d) s = y.done d s

-- the state after the items, which run in turn; the newest stands first
abbrev pub run_items : (y : System) → y.State → Items y → y.State
run_items y o [] = o
run_items y o (Ran t h c a ∷ l) = state_after y (y.effect c (run_items y o l)) (run_items y o l)
run_items y o (AtSavepoint t h n ∷ l) = run_items y o l

-- each is accepted in its turn, with its recorded outcome: the run is defined
abbrev pub Accepted : (y : System) → y.State → Items y → Type 0
Accepted y o [] = Unit {0}
Accepted y o (Ran t h c a ∷ l) = ((d : y.Change) × (y.effect c (run_items y o l) ≡ Accept a d)) × Accepted y o l
Accepted y o (AtSavepoint t h n ∷ l) = Accepted y o l

-- the tree of a history: the opening tree changed by the surviving commands alone
abbrev pub tree_of : (y : System) → y.State → History y → y.State
tree_of y o h = run_items y o (survivors h)

-- a transaction's own tree: the committed scripts, and then its own commands
abbrev pub own_tree : (y : System) → y.State → ℕ → History y → y.State
own_tree y o t h = run_items y o (live t h ++ committed h)

-- what was committed while at most n transactions had committed
abbrev pub committed_through : {y : System} → ℕ → History y → Items y
committed_through n [] = []
committed_through n (r ∷ h) = cond (nat_le (commits (r ∷ h)) n) (committed (r ∷ h)) (committed_through n h)

-- the tree after the first n commits
abbrev pub commit_tree : (y : System) → y.State → ℕ → History y → y.State
commit_tree y o n h = run_items y o (committed_through n h)

-- the tree of the history and the own tree of every open transaction are defined
pub record Defined (y : System) (o : y.State) (h : History y) : Type 0 where
  pub tree : Accepted y o (survivors h)
  pub own : (t : ℕ) → among t (numbers (opens h)) ≡ true → Accepted y o (live t h ++ committed h)
