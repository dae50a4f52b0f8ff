-- How a set of CPUs is kept: as a word, or shared.
use Rattle.std.specs.Prelude.{ℕ, ◌^◌, ◌<◌, ◌≤◌, IsTrue}
use Rattle.std.specs.Arc.{arc_value}
use Rattle.cg_maps.specs.FiniteSet.{FiniteSet, has}
use Rattle.cg_cpus.specs.Words.{low_set}
use Rattle.cg_boxed.specs.declared.cpus.Kept.{Kept}
use Rattle.cg_boxed.specs.declared.cpus.Kept.TheVariants.{Low, Wide}

-- the set
abbrev pub set_kept : Kept → FiniteSet
set_kept (Low word) = low_set word
set_kept (Wide shared) = arc_value shared

-- a word has 64 bits, and a set that is shared has a number from 64 on
abbrev pub IsKept : Kept → Type 0
IsKept (Low word) = word < 2 ^ 64
IsKept (Wide shared) = (n : ℕ) × IsTrue (has (arc_value shared) n) × (64 ≤ n)
