use Rattle.std.proofs.Common.{Some, ap, ◌∙◌}
use Rattle.std.specs.Option.{is_some}
use Rattle.cg_maps.specs.FiniteMap.{from_entries, get, set_at}
use Rattle.cg_name.specs.Path.{path_cmp}
use Rattle.cg_name.specs.Order.{path_cmp_exact}
use Rattle.cg_world.proofs.gathered_groups.GatheredGroups.insert.Goals as goal

pub returns-clause-ok : goal.returns-clause-ok
returns-clause-ok c = c.in_ok-had.ensures.ok path_cmp_exact ∙ ap (λ es. set_at (from_entries path_cmp es) c.args.path (Some c.args.settings)) c.self.view_is

pub returns-clause-had : goal.returns-clause-had
returns-clause-had c = c.in_ok-had.ensures.had path_cmp_exact ∙ ap (λ es. is_some (get (from_entries path_cmp es) c.args.path)) c.self.view_is
