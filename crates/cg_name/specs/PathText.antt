-- How the text of a path is kept: in a few bytes, or shared.
use Rattle.std.specs.Prelude.{◌≤◌, ◌≡◌, ℕ, List, take, length}
use Rattle.std.specs.Arc.{arc_value}
use Rattle.cg_name.specs.declared.path_text.Kept.{Kept}
use Rattle.cg_name.specs.declared.path_text.Kept.TheVariants.{Short, Long}

-- the bytes of the text
abbrev pub bytes_in : Kept → List ℕ
bytes_in (Short len bytes) = take len bytes
bytes_in (Long shared) = (arc_value shared).items

-- a short one has as many bytes as it says
abbrev pub IsWithin : Kept → Type 0
IsWithin (Short len bytes) = (len ≤ 12) × (length bytes ≡ 12)
IsWithin (Long shared) = Unit {0}
