-- Which entries a core's tree has, and which marks its open transactions hold, as its history says.
use Rattle.std.specs.Prelude.{ℕ, ◌+◌, Bool, cond, [], ◌∷◌}
use Rattle.cg_name.specs.Path.{Path}
use Rattle.cg_model.specs.Tree.{Tree}
use Rattle.cg_model.specs.Cgroups.{cgroups}
use Rattle.cg_model.specs.Footprint.{Mark}
use Rattle.cg_model.specs.Live.{Items, live}
use Rattle.cg_model.specs.Opens.{among, numbers, opens}
use Rattle.cg_model.specs.Room.{has_entry}
use Rattle.cg_model.specs.Run.{tree_of}
use Rattle.cg_core_laws.specs.LettingGo.{footprint_of}
use Rattle.cg_locks.specs.Marks.{times}
use Rattle.cg_core.specs.State.{CoreState}

-- a path has an entry: it is a group's, or a live command of an open transaction made a group there or took it away, so that
-- going back may need it
abbrev pub keeps_entry : CoreState → Path → Bool
keeps_entry c p = has_entry c.opening (λ t. live t c.history) (numbers (opens c.history)) (tree_of cgroups c.opening c.history) p

-- how often the mark stands in the footprints of these items
abbrev pub times_on : Tree → Mark → Items cgroups → ℕ
times_on O m [] = 0
times_on O m (x ∷ l) = times m (footprint_of O x) + times_on O m l

-- how often a transaction holds the mark: as often as it stands in the footprints of its live commands, while it is open
abbrev pub times_held : CoreState → ℕ → Mark → ℕ
times_held c u m = cond (among u (numbers (opens c.history))) (times_on c.opening m (live u c.history)) 0
