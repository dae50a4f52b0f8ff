-- Which mark of a footprint clashes with another footprint.
use Rattle.std.specs.Prelude.{Bool, List, Option, take}
use Rattle.std.specs.List.{find, list_any}
use Rattle.cg_model.specs.Footprint.{Mark, Count, clash}
use Rattle.cg_locks.specs.declared.clashing.AnyMark.{AnyMark}
use Rattle.cg_locks.specs.declared.clashing.AnyMark.TheVariants as any
use Rattle.cg_locks.specs.Meaning.{mark_of}

-- the mark clashes with one of these
abbrev pub clashes_any : List Mark → Mark → Bool
clashes_any g m = list_any (clash m) g

-- the first of the one footprint's marks that clashes with one of the other's
abbrev pub first_clashing : List Mark → List Mark → Option Mark
first_clashing f g = find (clashes_any g) f

-- the mark of the definitions
abbrev pub any_mark : AnyMark → Mark
any_mark (any.Plain m) = mark_of m.now
any_mark (any.Descendants p n) = Count (take n p.now)
