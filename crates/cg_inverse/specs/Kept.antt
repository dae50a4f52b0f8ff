-- The changes of an inverse, by what it keeps.
use Rattle.std.specs.Prelude.{List, [], ◌∷◌}
use Rattle.cg_inverse.specs.declared.change.Change.{Change}
use Rattle.cg_inverse.specs.declared.inverse.Kept.{Kept}
use Rattle.cg_inverse.specs.declared.inverse.Kept.TheVariants.{One, Many}

abbrev pub changes_in : Kept → List Change
changes_in (One c) = c ∷ []
changes_in (Many cs) = cs.items
