-- A tree with room: the tree of the definitions, and which paths have an entry (this project's own choice).
use Rattle.std.specs.Prelude.{◌≡◌, ℕ, Bool, false, true, not, ◌&&◌, ◌||◌, cond, Option, Some, None, IsSome, is_some}
use Rattle.cg_maps.specs.FiniteMap.{FiniteMap, get, set_at}
use Rattle.cg_name.specs.Path.{Path, path_cmp, is_root, is_above}
use Rattle.cg_model.specs.Room.{MaySweep}
use Rattle.cg_model.specs.Tree.{Tree, group, place_of, parent_group}
use Rattle.cg_path_tree.specs.Nodes.{parent_path}
use Rattle.cg_text.specs.declared.settings.Settings.{Settings}
use Rattle.cg_world.specs.Representable.{IsRepresentable}

pub record TreeWithRoom : Type 0 where
  pub tree : Tree
  -- the paths that have an entry: those of groups, and dead ones
  pub entries : FiniteMap path_cmp (Unit {0})

-- a path has an entry
abbrev pub has_entry : TreeWithRoom → Path → Bool
has_entry t p = is_some (get t.entries p)

-- a path has an entry, and is no group's
abbrev pub is_dead : TreeWithRoom → Path → Bool
is_dead t p = has_entry t p && not (is_some (group t.tree p))

-- what holds of every tree of the code, sound or not: code can hold it, each group has an entry, each process is at a path
-- that has one, and where a path has an entry, each path above it has one
pub record IsRooted (t : TreeWithRoom) : Type 0 where
  pub valid : IsRepresentable t.tree
  pub groups : (p : Path) → is_some (group t.tree p) ≡ true → has_entry t p ≡ true
  pub places : (k : ℕ) (p : Path) → place_of t.tree k ≡ Some p → has_entry t p ≡ true
  pub above : (p q : Path) → is_above p q ≡ true → has_entry t q ≡ true → has_entry t p ≡ true

-- an entry may be made at p: it is the root's path, or its parent is a group
abbrev pub may_have_entry : Tree → Path → Bool
may_have_entry T p = is_root p || is_some (parent_group T p)

-- a dead entry may be swept: no entry lies below it, and no process is in it
abbrev pub MaySweepIfDead : TreeWithRoom → Path → Type 0
MaySweepIfDead t p = is_dead t p ≡ true → MaySweep t.tree (has_entry t) p

-- the entries with one of p
abbrev pub with_entry : Option Path → FiniteMap path_cmp (Unit {0}) → FiniteMap path_cmp (Unit {0})
with_entry None E = E
with_entry (Some p) E = set_at E p (Some tt)

-- the entries without that of p, where it is dead
abbrev pub without_dead : TreeWithRoom → Path → FiniteMap path_cmp (Unit {0})
without_dead t p = cond (is_some (group t.tree p)) t.entries (set_at t.entries p None)

-- each group but the root has its parent
abbrev pub HaveParents : FiniteMap path_cmp Settings → Type 0
HaveParents m = (p : Path) → is_root p ≡ false → IsSome (get m p) → IsSome (get m (parent_path p))
