-- What the maps of a table say, as one map by transactions and marks.
use Rattle.std.specs.Prelude.{ℕ, zero, suc, ◌+◌, List, [], ◌∷◌, ◌++◌, Option, Some, None}
use Rattle.std.specs.Ordering.{nat_cmp}
use Rattle.cg_maps.specs.FiniteMap.{FiniteMap, empty, entries, from_entries, get, set_at}
use Rattle.cg_model.specs.Footprint.{Mark, X, S, N, Pid, Count}
use Rattle.cg_locks.specs.Held.{Marked}
use Rattle.cg_locks.specs.Holders.{Counts, PathCounts, held_above, held_at, held_below, held_if}
use Rattle.cg_locks.specs.Holdings.{Holdings}

-- the holders of the marks of each kind
pub record ByKind : Type 0 where
  pub changed : PathCounts
  pub read : PathCounts
  pub stays : PathCounts
  pub descendants : PathCounts
  pub processes : FiniteMap nat_cmp Counts

-- those of a table: of the marks at paths, and of the places of processes
abbrev pub by_kind : Marked → List (ℕ × Counts) → ByKind
by_kind m es = record { changed = m.changed; read = m.read; stays = m.stays; descendants = m.descendants; processes = from_entries nat_cmp es }

-- how often u holds the mark
abbrev pub count_of : ByKind → ℕ → Mark → ℕ
count_of K u (X p) = held_at K.changed p u
count_of K u (S p) = held_at K.read p u
count_of K u (N p) = held_at K.stays p u
count_of K u (Pid k) = held_if (get K.processes k) u
count_of K u (Count p) = held_at K.descendants p u

-- how many holdings by u clash with the mark
abbrev pub in_way_of : ByKind → Mark → ℕ → ℕ
in_way_of K (X p) u = ((held_above K.changed p u + held_below K.changed p u) + (held_above K.read p u + held_below K.read p u)) + held_below K.stays p u
in_way_of K (S p) u = (held_above K.changed p u + held_below K.changed p u) + held_below K.stays p u
in_way_of K (N p) u = held_above K.changed p u + held_above K.read p u
in_way_of K (Pid k) u = held_if (get K.processes k) u
in_way_of K (Count p) u = held_at K.descendants p u

-- none is left out
abbrev pub if_any : ℕ → Option ℕ
if_any zero = None
if_any (suc n) = Some (suc n)

-- the table that says what f says, of these transactions and marks
abbrev pub table_by : (ℕ → Mark → ℕ) → List (ℕ × Mark) → Holdings
table_by f [] = empty
table_by f (h ∷ hs) = set_at (table_by f hs) h (if_any (f h.0 h.1))

-- the transactions with this mark
abbrev pub with_mark : Mark → List (ℕ × ℕ) → List (ℕ × Mark)
with_mark m [] = []
with_mark m (e ∷ es) = (e.0, m) ∷ with_mark m es

-- the transactions and marks of one kind
abbrev pub of_kind : {A : Type 0} → (A → Mark) → List (A × Counts) → List (ℕ × Mark)
of_kind f [] = []
of_kind f (e ∷ es) = with_mark (f e.0) (entries e.1) ++ of_kind f es

unfoldable pub table_of : ByKind → Holdings
table_of K = table_by (count_of K) (of_kind X (entries K.changed) ++ (of_kind S (entries K.read) ++ (of_kind N (entries K.stays) ++ (of_kind Pid (entries K.processes) ++ of_kind Count (entries K.descendants)))))
