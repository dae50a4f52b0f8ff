use Rattle.std.proofs.Common.{sym, ap, subst, ◌∙◌}
use Rattle.std.specs.List.{AllByRecursion}
use Rattle.std.specs.Cmp.Lexicographic.{pointwise_decides, bytes_decides}
use Rattle.cg_maps.specs.FiniteMap.{from_entries}
use Rattle.cg_model.specs.Sound.{admits}
use Rattle.cg_name.specs.Path.{path_cmp}
use Rattle.cg_name.specs.Order.{path_cmp_exact}
use Rattle.cg_world.specs.Soundness.{IsPlaceIn}
use Rattle.cg_world.proofs.Places.{found_of_all, some_weaker}
use Rattle.cg_world.proofs.SoundTrees.{some_is}
use Rattle.cg_world.proofs.gathered_groups.GatheredGroups.find_allowed.Goals as goal

-- all paths of the set are those of groups that may have processes
pub returns-in-Some-clause-path : goal.returns-in-Some-clause-path
returns-in-Some-clause-path c =
    let all = some_is (λ paths. AllByRecursion (IsPlaceIn (from_entries path_cmp c.self.inside.kept)) paths.keys) _ _ c.in-Some.is c.self.invariant in
    some_weaker c.get.result (λ kept h. sym ((pointwise_decides bytes_decides c.args.path.now kept.now).0 h.1))
    (found_of_all (IsPlaceIn (from_entries path_cmp c.self.inside.kept)) _ c.in-Some.paths.keys c.get.result c.get.ensures.key all)

pub returns-in-Some-clause-known : goal.returns-in-Some-clause-known
returns-in-Some-clause-known c =
    let all = some_is (λ paths. AllByRecursion (IsPlaceIn (from_entries path_cmp c.self.inside.kept)) paths.keys) _ _ c.in-Some.is c.self.invariant in
    some_weaker c.get.result
    (λ kept h. subst (λ es. IsPlaceIn (from_entries path_cmp es) c.args.path.now) c.self.view_is
    (subst (IsPlaceIn (from_entries path_cmp c.self.inside.kept)) (sym ((pointwise_decides bytes_decides c.args.path.now kept.now).0 h.1)) h.0))
    (found_of_all (IsPlaceIn (from_entries path_cmp c.self.inside.kept)) _ c.in-Some.paths.keys c.get.result c.get.ensures.key all)

pub returns-in-Some-find-clause-path : goal.returns-in-Some-find-clause-path
returns-in-Some-find-clause-path c = c.in-Some-find.ensures.key path_cmp_exact

pub returns-in-Some-find-clause-known : goal.returns-in-Some-find-clause-known
returns-in-Some-find-clause-known c =
    let key = c.in-Some-find.ensures.key path_cmp_exact in
    subst (λ es. IsPlaceIn (from_entries path_cmp es) c.args.path.now) c.self.view_is
    (c.in-Some-find.settings.now, c.in-Some-find.ensures.value path_cmp_exact, ap (λ p. admits p c.in-Some-find.settings.now) (sym key) ∙ sym c.may_have_processes.ensures ∙ c.if-may_have_processes.true)
