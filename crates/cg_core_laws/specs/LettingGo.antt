-- What lets an entry go: the lock that a transaction holds on a group tells whether going back may still need its entry.
use Rattle.std.specs.Prelude.{◌≡◌, ℕ, Bool, true, not, ◌&&◌, List, [], ◌∷◌, ◌++◌, is_some}
use Rattle.std.specs.List.{list_any}
use Rattle.cg_name.specs.Path.{Path}
use Rattle.cg_model.specs.Tree.{Tree, group}
use Rattle.cg_model.specs.Change.{undone, Fits}
use Rattle.cg_model.specs.Footprint.{Mark, footprint, marks_subtree}
use Rattle.cg_model.specs.Cgroups.{cgroups}
use Rattle.cg_model.specs.Opens.{among, numbers, opens}
use Rattle.cg_model.specs.Live.{Item, Ran, AtSavepoint, Items, live}
use Rattle.cg_model.specs.Run.{tree_of}
use Rattle.cg_model.specs.Room.{inverse, has_entry, RoomFor, MaySweep}
use Rattle.cg_model.specs.Machine.{Machine}
use Rattle.cg_core_laws.specs.Unwind.{with_items}
use Rattle.cg_core_laws.specs.Serial.{AreOpen}
use Rattle.cg_core_laws.specs.Room.{RoomyTakenOff}

-- the footprint that an item's command had in the tree of the records before it; a savepoint has none
abbrev pub footprint_of : Tree → Item cgroups → List Mark
footprint_of O (Ran t h c a) = footprint c (tree_of cgroups O h)
footprint_of O (AtSavepoint t h n) = []

-- the command of one of the items marks the subtree of the group at p
abbrev pub holds_subtree : Tree → Path → Items cgroups → Bool
holds_subtree O p l = list_any (λ x. marks_subtree p (footprint_of O x)) l

-- x, taken off, lets the entry of p go: its command marked that subtree, none of the items left does, and p is no group
abbrev pub lets_go : Tree → Item cgroups → Items cgroups → Tree → Path → Bool
lets_go O x l T p = marks_subtree p (footprint_of O x) && (not (holds_subtree O p l) && not (is_some (group T p)))

-- the entries E, without those that x lets go, are those of the stacks and the tree after it; and what it lets go may be swept
pub record LetsGo (O : Tree) (ts : List ℕ) (E : Path → Bool) (stacks : ℕ → Items cgroups) (T : Tree) (x : Item cgroups) (l : Items cgroups) : Type 0 where
  pub entries : (p : Path) → has_entry O stacks ts T p ≡ (E p && not (lets_go O x l T p))
  pub sweeps : (p : Path) → E p ≡ true → lets_go O x l T p ≡ true → MaySweep T E p

-- ---- going back

-- the newest item x of t's stack can be taken off: it fits, there is room, and it lets go what nothing needs any more
pub record ComesOff (O : Tree) (ts : List ℕ) (stacks : ℕ → Items cgroups) (T : Tree) (t : ℕ) (x : Item cgroups) (l : Items cgroups) : Type 0 where
  pub fits : Fits (inverse O x) T
  pub room : RoomFor (has_entry O stacks ts T) (inverse O x)
  pub rest : LetsGo O ts (has_entry O stacks ts T) (with_items t l stacks) (undone (inverse O x) T) x l

-- so can that of each open transaction
abbrev pub AllComeOff : Tree → List ℕ → (ℕ → Items cgroups) → Tree → Type 0
AllComeOff O ts stacks T = (t : ℕ) (x : Item cgroups) (l : Items cgroups) → among t ts ≡ true → stacks t ≡ x ∷ l → ComesOff O ts stacks T t x l

-- open transactions are unwound in this order, each time by the newest item: so it is at every stage
abbrev pub ComeOffUnwinding : Tree → List ℕ → (ℕ → Items cgroups) → Tree → List ℕ → Type 0
ComeOffUnwinding O ts stacks T [] = AllComeOff O ts stacks T
ComeOffUnwinding O ts stacks T (u ∷ us) = AllComeOff O ts stacks T × RoomyTakenOff O stacks T u (stacks u) (λ stacks' T'. ComeOffUnwinding O ts stacks' T' us)

-- in whatever interleaving open transactions are unwound
abbrev pub NewestLetsGo : Tree → Machine cgroups → Type 0
NewestLetsGo O m = (us : List ℕ) → AreOpen us m.history → ComeOffUnwinding O (numbers (opens m.history)) (λ t. live t m.history) m.tree us

-- ---- a commit

-- a commit drains its stack from the oldest item, and the tree stays: what is left of the stack are the newer items
abbrev pub OldestLetsGo : Tree → Machine cgroups → Type 0
OldestLetsGo O m = (t : ℕ) (newer : Items cgroups) (x : Item cgroups) (older : Items cgroups) → among t (numbers (opens m.history)) ≡ true → live t m.history ≡ newer ++ x ∷ older
    → LetsGo O (numbers (opens m.history)) (has_entry O (with_items t (newer ++ x ∷ []) (λ u. live u m.history)) (numbers (opens m.history)) m.tree)
    (with_items t newer (λ u. live u m.history)) m.tree x newer
