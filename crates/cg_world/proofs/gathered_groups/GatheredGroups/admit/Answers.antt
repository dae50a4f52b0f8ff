use Rattle.std.proofs.Common.{subst}
use Rattle.cg_maps.specs.FiniteMap.{from_entries}
use Rattle.cg_name.specs.Path.{path_cmp}
use Rattle.cg_world.specs.Soundness.{IsPlaceIn}
use Rattle.cg_world.proofs.gathered_groups.GatheredGroups.admit.Goals as goal

pub returns-clause-known : goal.returns-clause-known
returns-clause-known c = λ _. subst (λ es. IsPlaceIn (from_entries path_cmp es) c.args.path.now) c.keep_allowed.ensures c.in-Some.ensures.known
