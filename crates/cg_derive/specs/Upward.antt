-- CPUs narrowed by groups that come the deepest first.
use Rattle.std.specs.Prelude.{◌==◌, cond, List, [], ◌∷◌}
use Rattle.cg_maps.specs.FiniteSet.{FiniteSet}
use Rattle.cg_model.specs.Derived.{narrowed}
use Rattle.cg_tree.specs.declared.ancestors.Ancestor.{Ancestor}

-- by the last one first; the root narrows nothing
abbrev pub narrowed_upward : FiniteSet → List Ancestor → FiniteSet
narrowed_upward e [] = e
narrowed_upward e (a ∷ rest) = cond (a.depth == 0) e (narrowed (narrowed_upward e rest) a.settings)
