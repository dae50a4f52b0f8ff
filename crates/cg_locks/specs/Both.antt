-- Two tables as one.
use Rattle.std.specs.Prelude.{ℕ, ◌+◌, List, [], ◌∷◌, ◌++◌}
use Rattle.cg_maps.specs.FiniteMap.{entries}
use Rattle.cg_model.specs.Footprint.{Mark}
use Rattle.cg_locks.specs.Holdings.{Holdings, holdings}
use Rattle.cg_locks.specs.Table.{table_by}

-- how often u holds the mark by both
abbrev pub both_count : Holdings → Holdings → ℕ → Mark → ℕ
both_count G H u m = holdings G u m + holdings H u m

-- the transactions and marks of a table
abbrev pub pairs_of : List ((ℕ × Mark) × ℕ) → List (ℕ × Mark)
pairs_of [] = []
pairs_of (e ∷ es) = e.0 ∷ pairs_of es

unfoldable pub both : Holdings → Holdings → Holdings
both G H = table_by (both_count G H) (pairs_of (entries G) ++ pairs_of (entries H))
