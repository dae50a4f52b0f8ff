-- Room: which paths have an entry, and when an entry may be swept (this project's own choice). Going back takes no memory,
-- because a group that was taken away leaves a dead entry, which stays as long as a live inverse may need it.
use Rattle.std.specs.Prelude.{◌≡◌, ℕ, Bool, true, false, not, ◌&&◌, ◌||◌, List, [], ◌∷◌, Option, Some, None, is_some}
use Rattle.std.specs.List.{AllByRecursion, list_any}
use Rattle.cg_name.specs.Path.{Path, same_path, is_above}
use Rattle.cg_model.specs.System.{Refuse, Accept}
use Rattle.cg_model.specs.Tree.{Tree, group, place_of}
use Rattle.cg_model.specs.Key.{Key, ValueOf, Group, Place}
use Rattle.cg_model.specs.Change.{Change}
use Rattle.cg_model.specs.Command.{Effect}
use Rattle.cg_model.specs.Effect.{effect}
use Rattle.cg_model.specs.Cgroups.{cgroups}
use Rattle.cg_model.specs.Live.{Item, Ran, AtSavepoint, Items}
use Rattle.cg_model.specs.Run.{tree_of}

-- the key is that of the group at p
abbrev pub is_group_key : Path → Key → Bool
is_group_key p (Group q) = same_path p q
is_group_key p _ = false

-- one of the changes makes the group at p, or takes it away
abbrev pub changes_group : Path → List Change → Bool
changes_group p cs = list_any (λ c. is_group_key p c.key) cs

-- the changes of an effect; a refusal has none
abbrev pub changes_of : Effect → List Change
changes_of (Refuse r) = []
changes_of (Accept o cs) = cs

-- the inverse of an item: the changes that its command made when it was accepted; a savepoint has none
abbrev pub inverse : Tree → Item cgroups → List Change
inverse O (Ran t h c a) = changes_of (effect c (tree_of cgroups O h))
inverse O (AtSavepoint t h n) = []

-- an inverse on the stack has the key of the group at p: going back may put that group back
abbrev pub needs_group : Tree → Path → Items cgroups → Bool
needs_group O p l = list_any (λ x. changes_group p (inverse O x)) l

-- some of the open transactions ts, with these stacks, needs the group at p
abbrev pub is_needed : Tree → (ℕ → Items cgroups) → List ℕ → Path → Bool
is_needed O stacks ts p = list_any (λ t. needs_group O p (stacks t)) ts

-- a path has an entry where it is a group, or else, dead, where it is needed
abbrev pub has_entry : Tree → (ℕ → Items cgroups) → List ℕ → Tree → Path → Bool
has_entry O stacks ts T p = is_some (group T p) || is_needed O stacks ts p

-- a group that is put back needs an entry of its path, and so does the group that a process is put back into
abbrev pub room_for : (Path → Bool) → (k : Key) → Option (ValueOf k) → Type 0
room_for E (Group p) (Some s) = E p ≡ true
room_for E (Place k) (Some q) = E q ≡ true
room_for E _ _ = Unit {0}

-- there is room to undo each change
abbrev pub RoomFor : (Path → Bool) → List Change → Type 0
RoomFor E cs = AllByRecursion (λ c. room_for E c.key c.before) cs

-- an entry may be swept: it is dead, no entry lies below it and no process is in it
pub record MaySweep (T : Tree) (E : Path → Bool) (p : Path) : Type 0 where
  pub dead : group T p ≡ None
  pub below : (q : Path) → is_above p q ≡ true → E q ≡ false
  pub unused : (k : ℕ) → ¬ (place_of T k ≡ Some p)

-- the entries without that of p
abbrev pub swept : Path → (Path → Bool) → Path → Bool
swept p E q = E q && not (same_path p q)

-- the paths are swept one after another, each when it may be
abbrev pub Sweeps : Tree → (Path → Bool) → List Path → Type 0
Sweeps T E [] = Unit {0}
Sweeps T E (p ∷ ps) = MaySweep T E p × Sweeps T (swept p E) ps
