-- Single marks of a table.
use Rattle.std.specs.Prelude.{◌≡◌, ◌≢◌, ℕ, ◌+◌, ◌<◌, ◌==◌, true, cond, Option, Some}
use Rattle.cg_maps.specs.FiniteMap.{get}
use Rattle.cg_model.specs.Footprint.{Mark, clash}
use Rattle.cg_locks.specs.Holders.{IsLeast}
use Rattle.cg_locks.specs.Holdings.{Holdings, holdings}
use Rattle.cg_locks.specs.Marks.{same_mark}

-- one where m is n, else none
abbrev pub once : Mark → Mark → ℕ
once m n = cond (same_mark m n) 1 0

-- in H' the transaction t holds n once more
abbrev pub IsHeldOnceMore : Holdings → ℕ → Mark → Holdings → Type 0
IsHeldOnceMore H t n H' = (u : ℕ) (m : Mark) → holdings H' u m ≡ holdings H u m + cond (u == t) (once m n) 0

-- u is another transaction than t, and holds a mark that clashes with n
pub record HoldsClashing (H : Holdings) (t : ℕ) (n : Mark) (u : ℕ) : Type 0 where
  pub other : u ≢ t
  pub mark : Mark
  pub held : 0 < holdings H u mark
  pub clashing : clash mark n ≡ true

-- the least such, if there is one
abbrev pub IsLeastInTheWay : Holdings → ℕ → Mark → Option ℕ → Type 0
IsLeastInTheWay H t n r = IsLeast (HoldsClashing H t n) r

-- who holds a mark never isn't named
abbrev pub IsNeat : Holdings → Type 0
IsNeat H = (u : ℕ) (m : Mark) (n : ℕ) → get H (u, m) ≡ Some n → 0 < n
