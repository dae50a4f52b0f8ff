-- The marks on numbers of descendants: the groups that have one are above a path, and known by how many names theirs has.
use Rattle.std.specs.Prelude.{ℕ, ◌<◌, cond, List, [], ◌∷◌, ◌++◌, take}
use Rattle.cg_model.specs.Footprint.{Mark, Count, is_limited}
use Rattle.cg_name.specs.Path.{Path}
use Rattle.cg_tree.specs.declared.ancestors.Ancestor.{Ancestor}

-- the paths of so many names with which p begins, each of which the one before begins with
abbrev pub prefixes : Path → List ℕ → List Path
prefixes p [] = []
prefixes p (d ∷ ds) = take d p ∷ prefixes (take d p) ds

-- the marks at these paths, that of the last one first
abbrev pub counts_at : List Path → List Mark
counts_at [] = []
counts_at (q ∷ qs) = counts_at qs ++ Count q ∷ []

-- each of the numbers is less than the one before, and the first is less than n
abbrev pub AreDescending : ℕ → List ℕ → Type 0
AreDescending n [] = Unit {0}
AreDescending n (d ∷ ds) = (d < n) × AreDescending d ds

-- how many names the paths of those groups have that are limited in the number of their descendants
abbrev pub limited_depths : List Ancestor → List ℕ
limited_depths [] = []
limited_depths (a ∷ rest) = cond (is_limited a.settings) (a.depth ∷ limited_depths rest) (limited_depths rest)
