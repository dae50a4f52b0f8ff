use Rattle.std.proofs.Common.{◌≡◌}
use Rattle.cg_maps.specs.FiniteMap.{empty}
use Rattle.cg_tree.proofs.WorldGroups.{IsPartOf}
use Rattle.cg_tree.proofs.worlds.with_entries.Given as goal

-- the groups so far are those that are no longer to come, and there is no process
abbrev pub invariant-loop-path : goal.invariant-loop-path
invariant-loop-path l = record {
  part : IsPartOf l.listed.entries l.made.groups l.path-iterator;
  places : l.made.places ≡ empty;
}
