-- What was gathered, as a list of entries by ascending keys.
use Rattle.std.specs.Prelude.{List}
use Rattle.cg_world.specs.declared.gathered.Kept.{Kept}
use Rattle.cg_world.specs.declared.gathered.Kept.TheVariants.{Run, Map}

-- the entries that are kept
abbrev pub entries_of : {K V : Type 0} → Kept K V → List (K × V)
entries_of (Run run) = run.items
entries_of (Map map) = map.entries
