-- The marks of one transaction, apart from those of all others: they stand in a list, and slots tell where each is.
use Rattle.std.specs.Prelude.{◌≡◌, ◌≢◌, ℕ, ◌+◌, ◌<◌, ◌==◌, true, bit_and, bit_xor, cond, length, slice_get, List, [], ◌∷◌, Some}
use Rattle.std.specs.Hash.FoldHasher as folding
use Rattle.cg_name.specs.Packed.{packed_text}
use Rattle.cg_name.specs.Path.{Path}
use Rattle.cg_model.specs.Footprint.{Mark, X, S, N, Pid, Count}
use Rattle.cg_locks.specs.declared.sole_marks.SoleMark.{SoleMark}
use Rattle.cg_locks.specs.Holdings.{Holdings}
use Rattle.cg_locks.specs.Marks.{same_mark}
use Rattle.cg_locks.specs.Meaning.{mark_of}
use Rattle.cg_locks.specs.Single.{once}
use Rattle.cg_locks.specs.Table.{table_by}

-- the slot of a mark at the path, of the kind with this number
abbrev pub slot_at : Path → ℕ → ℕ
slot_at p k = bit_and (bit_xor (folding.finish (folding.write folding.initial (packed_text p))) k) 8191

-- that of any mark; those on numbers of descendants don't stand here
abbrev pub slot_of : Mark → ℕ
slot_of (X p) = slot_at p 0
slot_of (S p) = slot_at p 1
slot_of (N p) = slot_at p 2
slot_of (Pid k) = bit_and k 8191
slot_of (Count p) = 0

-- how often the mark is held
abbrev pub sole_times : Mark → List SoleMark → ℕ
sole_times m [] = 0
sole_times m (e ∷ es) = cond (same_mark m (mark_of e.mark)) e.times 0 + sole_times m es

-- in es' the mark is held once more
abbrev pub IsOnceMore : List SoleMark → Mark → List SoleMark → Type 0
IsOnceMore es m es' = (n : Mark) → sole_times n es' ≡ sole_times n es + once n m

-- the mark stands at this place, and nowhere else
pub record StandsAt (es : List SoleMark) (i : ℕ) (m : Mark) : Type 0 where
  pub there : SoleMark
  pub found : slice_get es i ≡ Some there
  pub same : same_mark m (mark_of there.mark) ≡ true
  pub times : there.times ≡ sole_times m es

-- each mark is where its slot tells
abbrev pub AreFound : List SoleMark → List ℕ → Type 0
AreFound es slots = (j : ℕ) (e : SoleMark) → slice_get es j ≡ Some e → (e.slot ≡ slot_of (mark_of e.mark)) × (slice_get slots e.slot ≡ Some j)

-- the slot is no mark's
pub record IsFree (es : List SoleMark) (slots : List ℕ) (s : ℕ) : Type 0 where
  pub within : s < length slots
  pub none : (j : ℕ) (e : SoleMark) → slice_get es j ≡ Some e → e.slot ≢ s

-- the transaction h with each of these marks
abbrev pub with_holder : ℕ → List SoleMark → List (ℕ × Mark)
with_holder h [] = []
with_holder h (e ∷ es) = (h, mark_of e.mark) ∷ with_holder h es

-- how often u holds the mark, where these are h's
abbrev pub sole_count : ℕ → List SoleMark → ℕ → Mark → ℕ
sole_count h es u m = cond (u == h) (sole_times m es) 0

unfoldable pub sole_table : ℕ → List SoleMark → Holdings
sole_table h es = table_by (sole_count h es) (with_holder h es)
