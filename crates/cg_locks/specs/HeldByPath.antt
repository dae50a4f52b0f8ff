-- Who holds what at the paths of a tree.
use Rattle.std.specs.Prelude.{◌≡◌, ℕ, zero, suc, ◌+◌, ◌-◌, ◌<◌, ◌≤◌, ◌==◌, ◌&&◌, false, cond, length, List, map, take, Option, Some, None}
use Rattle.cg_maps.specs.FiniteMap.{FiniteMap, entries, from_entries, get}
use Rattle.cg_name.specs.Path.{Path, path_cmp, is_parent, same_path}
use Rattle.cg_path_tree.specs.Nodes.{parent_path}
use Rattle.cg_locks.specs.declared.held.Held.{Held}
use Rattle.cg_locks.specs.declared.held.Kind.{Kind}
use Rattle.cg_locks.specs.declared.held.Part.{Part}
use Rattle.cg_locks.specs.declared.held.Part.TheVariants.{ChangedAt, ReadAt, StaysAt, CountedAt, ChangedBelow, ReadBelow, StaysBelow}
use Rattle.cg_locks.specs.Held.{at_path, part_of, same_kind, same_part, Marked}
use Rattle.cg_locks.specs.Holders.{PathCounts, branches, held_at, one, times_on, IsSummedUp}

abbrev pub HeldByPath : Type 0
HeldByPath = FiniteMap path_cmp Held

-- the holders in one part, by paths
unfoldable pub in_part : Part → HeldByPath → PathCounts
in_part s T = from_entries path_cmp (map (λ e. (e.0, part_of s e.1)) (entries T))

abbrev pub marked : HeldByPath → Marked
marked T = record { changed = in_part ChangedAt T; read = in_part ReadAt T; stays = in_part StaysAt T; descendants = in_part CountedAt T }

-- the parts below have what is at each path and at those right below it
pub record AreSummedUp (T : HeldByPath) : Type 0 where
  pub changed : IsSummedUp (in_part ChangedAt T) (in_part ChangedBelow T)
  pub read : IsSummedUp (in_part ReadAt T) (in_part ReadBelow T)
  pub stays : IsSummedUp (in_part StaysAt T) (in_part StaysBelow T)

-- in T' the transaction t holds one more in the part s at p: where it held none there, p is one branch more above
pub record IsOneMoreIn (T : HeldByPath) (s : Part) (p : Path) (t : ℕ) (T' : HeldByPath) : Type 0 where
  pub at : (r : Part) (q : Path) (u : ℕ) → held_at (in_part r T') q u ≡ held_at (in_part r T) q u + one (same_part r s && (same_path q p && (u == t)))
  pub branched : (r : Part) (q : Path) (u : ℕ) → branches (in_part r T') q u ≡ branches (in_part r T) q u + one (same_part r s && (is_parent q p && ((u == t) && (held_at (in_part r T) p u == 0))))

-- in T' it has one more there than the branches at p tell, and at each other path as many more as in T
pub record IsOneMoreUp (T : HeldByPath) (s : Part) (p : Path) (t : ℕ) (T' : HeldByPath) : Type 0 where
  pub at : (r : Part) → same_part r s ≡ false → (q : Path) (u : ℕ) → held_at (in_part r T') q u ≡ held_at (in_part r T) q u
  pub beyond : (r : Part) (q : Path) (u : ℕ) → held_at (in_part r T') q u + branches (in_part r T) q u ≡ (held_at (in_part r T) q u + branches (in_part r T') q u) + one (same_part r s && (same_path q p && (u == t)))

-- the transaction has at each path at least as many as the branches tell
abbrev pub HasBranches : HeldByPath → Part → ℕ → Type 0
HasBranches T s t = (q : Path) → branches (in_part s T) q t ≤ held_at (in_part s T) q t

-- and more at this one
abbrev pub HasMoreThanBranches : HeldByPath → Part → ℕ → Path → Type 0
HasMoreThanBranches T s t p = branches (in_part s T) p t < held_at (in_part s T) p t

-- how often q is among the first n of p, the path above it, the one above that, and so on
abbrev pub times_up : ℕ → Path → Path → ℕ
times_up zero p q = 0
times_up (suc n) p q = one (same_path q p) + times_up n (parent_path p) q

-- in T' the transaction has one more in the part at each of these that has more than d names
abbrev pub IsOneMoreBeyond : HeldByPath → Part → Path → ℕ → ℕ → HeldByPath → Type 0
IsOneMoreBeyond T s p d t T' = (r : Part) (q : Path) (u : ℕ) → held_at (in_part r T') q u ≡ held_at (in_part r T) q u + cond (same_part r s && (u == t)) (times_up (length p - d) p q) 0

-- it has one there
abbrev pub HasBeyond : HeldByPath → Part → Path → ℕ → ℕ → Type 0
HasBeyond T s p d t = (q : Path) → times_up (length p - d) p q ≤ held_at (in_part s T) q t

-- in T' the same is held
pub record IsSameHeld (T T' : HeldByPath) : Type 0 where
  pub at : (r : Part) (q : Path) (u : ℕ) → held_at (in_part r T') q u ≡ held_at (in_part r T) q u
  pub branched : (r : Part) (q : Path) (u : ℕ) → branches (in_part r T') q u ≡ branches (in_part r T) q u

-- in T' the transaction t holds the mark of the kind k at p once more, and the parts below have what they should as in T
pub record IsMarkMore (T : HeldByPath) (k : Kind) (p : Path) (t : ℕ) (T' : HeldByPath) : Type 0 where
  pub at : (j : Kind) (q : Path) (u : ℕ) → held_at (in_part (at_path j) T') q u ≡ held_at (in_part (at_path j) T) q u + one (same_kind j k && (same_path q p && (u == t)))
  pub summed : AreSummedUp T → AreSummedUp T'
  pub back : AreSummedUp T' → AreSummedUp T

-- the same of the numbers of descendants at these paths, each as often as it stands there; of every other part the same is held
pub record AreCountsMore (T : HeldByPath) (ps : List Path) (t : ℕ) (T' : HeldByPath) : Type 0 where
  pub at : (r : Part) (q : Path) (u : ℕ) → held_at (in_part r T') q u ≡ held_at (in_part r T) q u + cond (same_part r CountedAt && (u == t)) (times_on q ps) 0
  pub summed : AreSummedUp T → AreSummedUp T'
  pub back : AreSummedUp T' → AreSummedUp T

-- t holds them so often
abbrev pub HasCounts : HeldByPath → List Path → ℕ → Type 0
HasCounts T ps t = (q : Path) → times_on q ps ≤ held_at (in_part CountedAt T) q t

-- ---- along a path

-- what w says of u at a path, or 0 where there is no node
abbrev pub weighed_if : (Held → ℕ → ℕ) → Option Held → ℕ → ℕ
weighed_if w None u = 0
weighed_if w (Some h) u = w h u

abbrev pub weighed : (Held → ℕ → ℕ) → HeldByPath → Path → ℕ → ℕ
weighed w T p u = weighed_if w (get T p) u

-- and at the first n of the paths with which the path begins, the root's first
abbrev pub weighed_until : (Held → ℕ → ℕ) → HeldByPath → Path → ℕ → ℕ → ℕ
weighed_until w T p zero u = 0
weighed_until w T p (suc n) u = weighed_until w T p n u + weighed w T (take n p) u

-- at all of these, itself too
abbrev pub weighed_above : (Held → ℕ → ℕ) → HeldByPath → Path → ℕ → ℕ
weighed_above w T p u = weighed_until w T p (suc (length p)) u
