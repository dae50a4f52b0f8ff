use Rattle.std.proofs.Common.{ap, ◌∙◌}
use Rattle.cg_maps.specs.FiniteMap.{from_entries}
use Rattle.cg_name.specs.Path.{path_cmp}
use Rattle.cg_name.specs.Order.{path_cmp_exact}
use Rattle.cg_world.proofs.gathered_groups.GatheredGroups.finish.Goals as goal

pub returns : goal.returns
returns c = c.in_ok-map.ensures path_cmp_exact ∙ ap (from_entries path_cmp) c.self.view_is
