-- Room for going back, and sweeps that find their condition.
use Rattle.std.specs.Prelude.{◌≡◌, ◌⊎◌, ℕ, Bool, true, false, List, [], ◌∷◌, ◌++◌}
use Rattle.std.specs.List.{AllByRecursion, list_any}
use Rattle.cg_name.specs.Path.{Path, same_path, is_above}
use Rattle.cg_model.specs.Tree.{Tree}
use Rattle.cg_model.specs.Change.{undone}
use Rattle.cg_model.specs.Cgroups.{cgroups}
use Rattle.cg_model.specs.Opens.{among, numbers, opens}
use Rattle.cg_model.specs.Live.{Item, Items, live}
use Rattle.cg_model.specs.Machine.{Machine}
use Rattle.cg_model.specs.Room.{changes_group, inverse, has_entry, RoomFor, Sweeps}
use Rattle.cg_core_laws.specs.Unwind.{with_items}
use Rattle.cg_core_laws.specs.Serial.{AreOpen}

-- the path is one of these
abbrev pub is_listed : Path → List Path → Bool
is_listed p ps = list_any (same_path p) ps

-- no path stands before one that lies below it
abbrev pub LowerFirst : List Path → Type 0
LowerFirst [] = Unit {0}
LowerFirst (p ∷ ps) = AllByRecursion (λ q. is_above p q ≡ false) ps × LowerFirst ps

-- what is neither a group nor needed may be swept, lower paths first, however many such entries there are
abbrev pub MaySweepTheRest : Tree → (ℕ → Items cgroups) → List ℕ → Tree → Type 0
MaySweepTheRest O stacks ts T = (E : Path → Bool) (ps : List Path)
    → ((p : Path) → E p ≡ true → (has_entry O stacks ts T p ≡ true) ⊎ (is_listed p ps ≡ true))
    → AllByRecursion (λ p. has_entry O stacks ts T p ≡ false) ps
    → LowerFirst ps
    → Sweeps T E ps

-- the newest inverse of each open transaction has room; taking it off frees the entries of its own groups at most; and what
-- is neither a group nor needed may be swept
pub record HasRoom (O : Tree) (stacks : ℕ → Items cgroups) (ts : List ℕ) (T : Tree) : Type 0 where
  pub turn : (t : ℕ) (x : Item cgroups) (l : Items cgroups) → among t ts ≡ true → stacks t ≡ x ∷ l → RoomFor (has_entry O stacks ts T) (inverse O x)
  pub freed : (t : ℕ) (x : Item cgroups) (l : Items cgroups) → among t ts ≡ true → stacks t ≡ x ∷ l → (p : Path) → has_entry O stacks ts T p ≡ true
      → (has_entry O (with_items t l stacks) ts (undone (inverse O x) T) p ≡ true) ⊎ (changes_group p (inverse O x) ≡ true)
  pub sweeps : MaySweepTheRest O stacks ts T

-- the newest item of a stack is taken off, and what is asked of the rest holds then
abbrev pub RoomyTakenOff : Tree → (ℕ → Items cgroups) → Tree → ℕ → Items cgroups → ((ℕ → Items cgroups) → Tree → Type 0) → Type 0
RoomyTakenOff O stacks T t [] Rest = Rest stacks T
RoomyTakenOff O stacks T t (x ∷ l) Rest = Rest (with_items t l stacks) (undone (inverse O x) T)

-- open transactions are unwound in this order, each time by the newest item: there is room at every turn
abbrev pub RoomyUnwinds : Tree → List ℕ → (ℕ → Items cgroups) → Tree → List ℕ → Type 0
RoomyUnwinds O ts stacks T [] = HasRoom O stacks ts T
RoomyUnwinds O ts stacks T (u ∷ us) = HasRoom O stacks ts T × RoomyTakenOff O stacks T u (stacks u) (λ stacks' T'. RoomyUnwinds O ts stacks' T' us)

-- every live inverse has room when its turn comes, in whatever interleaving open transactions are unwound
abbrev pub RoomKept : Tree → Machine cgroups → Type 0
RoomKept O m = (us : List ℕ) → AreOpen us m.history → RoomyUnwinds O (numbers (opens m.history)) (λ t. live t m.history) m.tree us

-- a commit drains its stack from the oldest item: what the remaining items and the other transactions don't need may be
-- swept at every stage
abbrev pub CommitSweeps : Tree → Machine cgroups → Type 0
CommitSweeps O m = (t : ℕ) (newer older : Items cgroups) → among t (numbers (opens m.history)) ≡ true → live t m.history ≡ newer ++ older
    → MaySweepTheRest O (with_items t newer (λ u. live u m.history)) (numbers (opens m.history)) m.tree
