-- Items undone one after another, and what stands above a savepoint: the machine's own words.
use Rattle.std.proofs.Common.{◌≡◌, ℕ, ◌||◌, Bool, true, false, cond, List, [], ◌∷◌, ◌++◌, ◌+◌, map, refl, ap}
use Rattle.std.proofs.lemmas.Bool.{false≢true}
use Rattle.cg_name.specs.Name.{Name, same_name}
use Rattle.cg_model.specs.Tree.{Tree}
use Rattle.cg_model.specs.Change.{undone}
use Rattle.cg_model.specs.Cgroups.{cgroups}
use Rattle.cg_model.specs.History.{WentBack, Answer}
use Rattle.cg_model.specs.Live.{Item, Ran, AtSavepoint, Items, below}
use Rattle.cg_model.specs.Machine.{StackEntry, unwound, back_to}
use Rattle.cg_model.specs.Reply.{has_savepoint, commands_above}
use Rattle.cg_model.specs.Room.{inverse}
use Rattle.cg_core_laws.specs.MachineOf.{entry_of}

-- the tree with the inverses of these items undone, the first one first
abbrev pub undone_all : Tree → Items cgroups → Tree → Tree
undone_all O [] T = T
undone_all O (x ∷ l) T = undone_all O l (undone (inverse O x) T)

-- what stands above the savepoint with this name
abbrev pub above : Name → Items cgroups → Items cgroups
above n [] = []
above n (Ran t h c a ∷ l) = Ran t h c a ∷ above n l
above n (AtSavepoint t h m ∷ l) = cond (same_name m n) [] (AtSavepoint t h m ∷ above n l)

-- the item is a savepoint
abbrev pub is_savepoint : Item cgroups → Bool
is_savepoint (Ran t h c a) = false
is_savepoint (AtSavepoint t h n) = true

-- the machine unwinds by the inverses of the items
pub unwound_is : (O : Tree) (l : Items cgroups) (T : Tree) → unwound cgroups (map (entry_of O) l) T ≡ undone_all O l T
unwound_is O [] T = refl
unwound_is O (Ran t h c a ∷ l) T = unwound_is O l (undone (inverse O (Ran t h c a)) T)
unwound_is O (AtSavepoint t h n ∷ l) T = unwound_is O l T

-- the machine goes back to a savepoint by the inverses above it, and what stands below it is left
pub back_to_is : (O : Tree) (n : Name) (l : Items cgroups) (T : Tree) (k : ℕ) → has_savepoint n l ≡ true
    → back_to cgroups n (map (entry_of O) l) T k ≡ (map (entry_of O) (below n l), undone_all O (above n l) T, WentBack (commands_above n k l))
back_to_is O n [] T k e = absurd (false≢true e)
back_to_is O n (Ran t h c a ∷ l) T k e = back_to_is O n l (undone (inverse O (Ran t h c a)) T) (k + 1) e
back_to_is O n (AtSavepoint t h m ∷ l) T k e = at (same_name m n) e (back_to_is O n l T k)
  where
    at : (b : Bool) → (b || has_savepoint n l) ≡ true
        → (has_savepoint n l ≡ true → back_to cgroups n (map (entry_of O) l) T k ≡ (map (entry_of O) (below n l), undone_all O (above n l) T, WentBack (commands_above n k l)))
        → ◌≡◌ {A = List (StackEntry cgroups) × Tree × Answer} (cond b (map (entry_of O) l, T, WentBack k) (back_to cgroups n (map (entry_of O) l) T k))
        (map (entry_of O) (cond b l (below n l)), undone_all O (cond b [] (AtSavepoint t h m ∷ above n l)) T, WentBack (cond b k (commands_above n k l)))
    at true e rest = refl
    at false e rest = rest e

-- the items are those above the savepoint, the savepoint and those below it
pub parted : (n : Name) (l : Items cgroups) → has_savepoint n l ≡ true → (x : Item cgroups) × (is_savepoint x ≡ true) × (l ≡ above n l ++ x ∷ below n l)
parted n [] e = absurd (false≢true e)
parted n (Ran t h c a ∷ l) e = let r = parted n l e in (r.0, r.1, ap (λ k. Ran t h c a ∷ k) r.2)
parted n (AtSavepoint t h m ∷ l) e = at (same_name m n) e (parted n l)
  where
    at : (b : Bool) → (b || has_savepoint n l) ≡ true → (has_savepoint n l ≡ true → (x : Item cgroups) × (is_savepoint x ≡ true) × (l ≡ above n l ++ x ∷ below n l))
        → (x : Item cgroups) × (is_savepoint x ≡ true) × (AtSavepoint t h m ∷ l ≡ cond b [] (AtSavepoint t h m ∷ above n l) ++ x ∷ cond b l (below n l))
    at true e rest = (AtSavepoint t h m, refl, refl)
    at false e rest = let r = rest e in (r.0, r.1, ap (λ k. AtSavepoint t h m ∷ k) r.2)
