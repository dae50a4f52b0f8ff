use Rattle.std.specs.List.{AllByRecursion}
use Rattle.cg_maps.specs.FiniteMap.{from_entries}
use Rattle.cg_name.specs.Path.{path_cmp}
use Rattle.cg_world.specs.Soundness.{IsPlaceIn}
use Rattle.cg_world.proofs.gathered_groups.allowed_of_run.Given as goal

abbrev pub invariant-loop-path : goal.invariant-loop-path
invariant-loop-path l = AllByRecursion (IsPlaceIn (from_entries path_cmp l.groups)) l.paths.keys
