-- Which transaction holds which mark, and how often (this project's own choice).
use Rattle.std.specs.Prelude.{◌≡◌, ◌≢◌, ℕ, ◌<◌, ◌≤◌, true, [], List, ◌∷◌}
use Rattle.std.specs.Ordering.{on}
use Rattle.std.specs.Coded.{Coded, coded×, coded_ℕ}
use Rattle.std.specs.declared.cmp.Ordering.{Ordering}
use Rattle.std.specs.List.{list_any}
use Rattle.std.specs.Option.{unwrap_or}
use Rattle.cg_maps.specs.Code.{map_code}
use Rattle.cg_maps.specs.FiniteMap.{FiniteMap, get}
use Rattle.cg_name.specs.Path.{Path, path_cmp}
use Rattle.cg_model.specs.Footprint.{Mark, clash}
use Rattle.cg_locks.specs.Marks.{mark_code, mark_text, times}

-- a transaction and a mark as one text
abbrev pub holding_text : ℕ × Mark → Path
holding_text h = (h.0 ∷ []) ∷ mark_text h.1

-- by which they are ordered: any order would do
abbrev pub holding_cmp : ℕ × Mark → ℕ × Mark → Ordering
holding_cmp = on holding_text path_cmp

-- the transactions and marks, each with how often the one holds the other
abbrev pub Holdings : Type 0
Holdings = FiniteMap holding_cmp ℕ

-- how often the transaction u holds the mark m
unfoldable pub holdings : Holdings → ℕ → Mark → ℕ
holdings T u m = unwrap_or (get T (u, m)) 0

-- u holds m at least as often as it stands in the footprint
abbrev pub HoldsMark : Holdings → ℕ → List Mark → Mark → Type 0
HoldsMark T u f m = times m f ≤ holdings T u m

-- so it does each mark
abbrev pub HoldsAll : Holdings → ℕ → List Mark → Type 0
HoldsAll T u f = (m : Mark) → HoldsMark T u f m

-- u is another transaction than t, and holds a mark that clashes with one of the footprint
pub record IsInTheWay (T : Holdings) (t : ℕ) (f : List Mark) (u : ℕ) : Type 0 where
  pub other : u ≢ t
  pub mark : Mark
  pub held : 0 < holdings T u mark
  pub clashing : list_any (clash mark) f ≡ true

-- holdings are data
abbrev pub holdings_code : Coded Holdings
holdings_code = map_code (coded× coded_ℕ mark_code) coded_ℕ
