-- Runs in another order: a command is taken out, and open transactions are pulled to the front.
use Rattle.std.specs.Prelude.{◌≡◌, ℕ, ◌==◌, ◌&&◌, not, Bool, true, false, List, [], ◌∷◌, ◌++◌}
use Rattle.cg_model.specs.System.{System, Outcome, Accept}
use Rattle.cg_model.specs.History.{History}
use Rattle.cg_model.specs.Opens.{numbers, among, opens}
use Rattle.cg_model.specs.Live.{Item, Ran, AtSavepoint, Items, joined_if, survivors, committed, stacked}
use Rattle.cg_model.specs.Run.{run_items, Accepted}
use Rattle.cg_model.specs.Machine.{Machine}
use Rattle.cg_core_laws.specs.Serial.{OnceEach, AreOpen}

-- the transaction whose item it is
abbrev pub transaction_of : {y : System} → Item y → ℕ
transaction_of (Ran t h c a) = t
transaction_of (AtSavepoint t h n) = t

-- the items of the transactions that pass
abbrev pub of_those : {y : System} → (ℕ → Bool) → Items y → Items y
of_those p [] = []
of_those p (x ∷ l) = joined_if (p (transaction_of x)) x (of_those p l)

-- ---- a command is taken out

-- the footprint clashes with that of no command that ran after these, each in the state in which it ran
abbrev pub ClashesWithNone : (y : System) → y.State → y.Footprint → Items y → Items y → Type 0
ClashesWithNone y o f [] older = Unit {0}
ClashesWithNone y o f (Ran t h c a ∷ newer) older = (y.clashes f (y.footprint c (run_items y o (newer ++ older))) ≡ false) × ClashesWithNone y o f newer older
ClashesWithNone y o f (AtSavepoint t h n ∷ newer) older = ClashesWithNone y o f newer older

-- without an item whose change is d, between the newer ones and the older
pub record IsTakenOut (y : System) (o : y.State) (newer : Items y) (x : Item y) (older : Items y) (d : y.Change) : Type 0 where
  -- the others are accepted, with their recorded outcomes
  pub accepted : Accepted y o (newer ++ older)
  -- the change fits, though others came after it, and the others lead to the state with it undone
  pub fits : y.Fits d (run_items y o (newer ++ x ∷ older))
  pub undone : run_items y o (newer ++ older) ≡ y.undone d (run_items y o (newer ++ x ∷ older))

-- an accepted command that nothing later clashes with can be taken out of the run
abbrev pub DropsOut : (y : System) → y.State → Type 0
DropsOut y o = (newer older : Items y) (t : ℕ) (h : History y) (c : y.Command) (a : Outcome) (d : y.Change)
    → Accepted y o (newer ++ Ran t h c a ∷ older) → y.effect c (run_items y o older) ≡ Accept a d
    → ClashesWithNone y o (y.footprint c (run_items y o older)) newer (Ran t h c a ∷ older)
    → IsTakenOut y o newer (Ran t h c a) older d

-- the newest item of an open transaction, where it is a command, is one: nothing later that survives clashes with it
abbrev pub NewestClashesWithNone : (y : System) → y.State → Machine y → Type 0
NewestClashesWithNone y o m = (newer older : Items y) (t : ℕ) (h : History y) (c : y.Command) (a : Outcome) → among t (numbers (opens m.history)) ≡ true
    → survivors m.history ≡ newer ++ Ran t h c a ∷ older → of_those (λ u. u == t) newer ≡ []
    → ClashesWithNone y o (y.footprint c (run_items y o older)) newer (Ran t h c a ∷ older)

-- ---- open transactions are pulled to the front

-- what stands of the open transactions but these, in the order of the records
abbrev pub not_pulled : {y : System} → List ℕ → History y → Items y
not_pulled ts h = of_those (λ t. among t (numbers (opens h)) && not (among t ts)) (survivors h)

-- open transactions may be pulled one after another, each to right after what was committed and those that were
-- pulled before it: the whole is accepted with its recorded outcomes, and gives the tree
abbrev pub PulledToTheFront : (y : System) → y.State → Machine y → Type 0
PulledToTheFront y o m = (ts : List ℕ) → OnceEach ts → AreOpen ts m.history
    → Accepted y o (not_pulled ts m.history ++ stacked ts m.history (committed m.history)) × (run_items y o (not_pulled ts m.history ++ stacked ts m.history (committed m.history)) ≡ m.tree)
