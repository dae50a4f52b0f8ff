-- Who holds what at one path, part by part; and by kinds of marks at all paths.
use Rattle.std.specs.Prelude.{◌≡◌, ℕ, ◌+◌, ◌==◌, ◌&&◌, Bool, true, false, cond, List, Option, Some, None, refl}
use Rattle.std.specs.Coded.{Coded, code_by, coded×, coded_ℕ}
use Rattle.cg_maps.specs.Code.{map_code}
use Rattle.cg_model.specs.Code.{path_code}
use Rattle.cg_name.specs.Path.{Path, same_path}
use Rattle.cg_locks.specs.declared.held.Kind.{Kind}
use Rattle.cg_locks.specs.declared.held.Kind.TheVariants as kinds
use Rattle.cg_locks.specs.declared.held.Part.{Part}
use Rattle.cg_locks.specs.declared.held.Part.TheVariants.{ChangedAt, ReadAt, StaysAt, CountedAt, ChangedBelow, ReadBelow, StaysBelow}
use Rattle.cg_locks.specs.Holders.{Counts, PathCounts, held_above, held_at, held_below, held_by, one, times_on}

-- the holders in each part
pub record HeldParts : Type 0 where
  pub changed : Counts
  pub read : Counts
  pub stays : Counts
  pub descendants : Counts
  pub changed_below : Counts
  pub read_below : Counts
  pub stays_below : Counts

abbrev pub held_code : Coded HeldParts
held_code =
    let counts : Coded Counts = map_code coded_ℕ coded_ℕ in
    code_by ((Counts × Counts) × ((Counts × Counts) × (Counts × (Counts × Counts)))) (coded× (coded× counts counts) (coded× (coded× counts counts) (coded× counts (coded× counts counts))))
    (λ h. ((h.changed, h.read), ((h.stays, h.descendants), (h.changed_below, (h.read_below, h.stays_below)))))
    (λ p. record { changed = p.0.0; read = p.0.1; stays = p.1.0.0; descendants = p.1.0.1; changed_below = p.1.1.0; read_below = p.1.1.1.0; stays_below = p.1.1.1.1 }) (λ _. refl)

abbrev pub part_of : Part → HeldParts → Counts
part_of ChangedAt h = h.changed
part_of ReadAt h = h.read
part_of StaysAt h = h.stays
part_of CountedAt h = h.descendants
part_of ChangedBelow h = h.changed_below
part_of ReadBelow h = h.read_below
part_of StaysBelow h = h.stays_below

-- parts by numbers
abbrev pub part_number : Part → ℕ
part_number ChangedAt = 0
part_number ChangedBelow = 1
part_number StaysBelow = 2
part_number ReadBelow = 3
part_number ReadAt = 4
part_number StaysAt = 5
part_number CountedAt = 6

abbrev pub same_part : Part → Part → Bool
same_part ChangedAt ChangedAt = true
same_part ReadAt ReadAt = true
same_part StaysAt StaysAt = true
same_part CountedAt CountedAt = true
same_part ChangedBelow ChangedBelow = true
same_part ReadBelow ReadBelow = true
same_part StaysBelow StaysBelow = true
same_part _ _ = false

abbrev pub same_kind : Kind → Kind → Bool
same_kind kinds.Changed kinds.Changed = true
same_kind kinds.Read kinds.Read = true
same_kind kinds.Stays kinds.Stays = true
same_kind kinds.Descendants kinds.Descendants = true
same_kind _ _ = false

-- the part with the marks of a kind at the path
abbrev pub at_path : Kind → Part
at_path kinds.Changed = ChangedAt
at_path kinds.Read = ReadAt
at_path kinds.Stays = StaysAt
at_path kinds.Descendants = CountedAt

-- and that with those at it or below it, if there is one
abbrev pub at_or_below : Kind → Option Part
at_or_below kinds.Changed = Some ChangedBelow
at_or_below kinds.Read = Some ReadBelow
at_or_below kinds.Stays = Some StaysBelow
at_or_below kinds.Descendants = None

-- in h' the transaction t holds one more in the part s
abbrev pub IsHeldMore : HeldParts → Part → ℕ → HeldParts → Type 0
IsHeldMore h s t h' = (r : Part) (u : ℕ) → held_by (part_of r h') u ≡ held_by (part_of r h) u + one (same_part r s && (u == t))

-- how many holdings by u here clash with a mark of the kind here or below
abbrev pub above_of : Kind → HeldParts → ℕ → ℕ
above_of kinds.Changed h u = held_by h.changed u + held_by h.read u
above_of kinds.Read h u = held_by h.changed u
above_of kinds.Stays h u = held_by h.changed u + held_by h.read u
above_of kinds.Descendants h u = 0

-- and how many here or below with one here
abbrev pub here_of : Kind → HeldParts → ℕ → ℕ
here_of kinds.Changed h u = held_by h.read_below u + (held_by h.changed_below u + held_by h.stays_below u)
here_of kinds.Read h u = held_by h.changed_below u + held_by h.stays_below u
here_of kinds.Stays h u = 0
here_of kinds.Descendants h u = held_by h.descendants u

-- ---- at all paths

-- the holders of the marks of each kind, by paths
pub record Marked : Type 0 where
  pub changed : PathCounts
  pub read : PathCounts
  pub stays : PathCounts
  pub descendants : PathCounts

abbrev pub marked_code : Coded Marked
marked_code =
    let counts : Coded PathCounts = map_code path_code (map_code coded_ℕ coded_ℕ) in
    code_by ((PathCounts × PathCounts) × (PathCounts × PathCounts)) (coded× (coded× counts counts) (coded× counts counts))
    (λ m. ((m.changed, m.read), (m.stays, m.descendants))) (λ p. record { changed = p.0.0; read = p.0.1; stays = p.1.0; descendants = p.1.1 }) (λ _. refl)

abbrev pub of_kind : Marked → Kind → PathCounts
of_kind m kinds.Changed = m.changed
of_kind m kinds.Read = m.read
of_kind m kinds.Stays = m.stays
of_kind m kinds.Descendants = m.descendants

-- how many holdings by u clash with the mark of the kind at the path
abbrev pub in_way : Marked → Kind → Path → ℕ → ℕ
in_way m kinds.Changed p u = ((held_above m.changed p u + held_below m.changed p u) + (held_above m.read p u + held_below m.read p u)) + held_below m.stays p u
in_way m kinds.Read p u = (held_above m.changed p u + held_below m.changed p u) + held_below m.stays p u
in_way m kinds.Stays p u = held_above m.changed p u + held_above m.read p u
in_way m kinds.Descendants p u = held_at m.descendants p u

-- in m' the transaction t holds the mark of the kind k at p once more
abbrev pub IsMarkedMore : Marked → Kind → Path → ℕ → Marked → Type 0
IsMarkedMore m k p t m' = (j : Kind) (q : Path) (u : ℕ) → held_at (of_kind m' j) q u ≡ held_at (of_kind m j) q u + one (same_kind j k && (same_path q p && (u == t)))

-- in m' the transaction t holds the number of descendants at each path as often more as it stands among these
abbrev pub AreCountedMore : Marked → List Path → ℕ → Marked → Type 0
AreCountedMore m ps t m' = (j : Kind) (q : Path) (u : ℕ) → held_at (of_kind m' j) q u ≡ held_at (of_kind m j) q u + cond (same_kind j kinds.Descendants && (u == t)) (times_on q ps) 0

-- in m' the same is held
abbrev pub IsMarkedAlike : Marked → Marked → Type 0
IsMarkedAlike m m' = (j : Kind) (q : Path) (u : ℕ) → held_at (of_kind m' j) q u ≡ held_at (of_kind m j) q u
