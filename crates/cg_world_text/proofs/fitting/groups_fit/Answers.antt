use Rattle.std.proofs.Common.{true, false, sym, ap, ◌∙◌}
use Rattle.std.specs.List.{list_all}
use Rattle.std.specs.Map.Iter.{deref_pair}
use Rattle.std.proofs.lemmas.Map.Iter.{rest_more, rest_all}
use Rattle.cg_maps.proofs.TreeMaps.{entries-view}
use Rattle.cg_name.specs.Order.{path_cmp_total, path_cmp_exact}
use Rattle.cg_world_text.specs.World.{settings_fit_one}
use Rattle.cg_world_text.proofs.LowCpus.{all_behind_one}
use Rattle.cg_world_text.proofs.fitting.groups_fit.Goals as goal

pub loop-path-init : goal.loop-path-init
loop-path-init c = ap (list_all (λ e. settings_fit_one e.1)) c.into_iter-path-iterator.ensures.into_iter_gives.0

pub returns-then-not-settings_fit : goal.returns-then-not-settings_fit
returns-then-not-settings_fit c =
    sym (all_behind_one (λ e. settings_fit_one e.1) _ _ _ false (rest_more deref_pair _ _ _ _ c.in-Some.is c.next.ensures.steps) (sym c.settings_fit.ensures ∙ c.if-not-settings_fit.true))
    ∙ c.loop-path.invariant
    ∙ sym (ap (list_all (λ e. settings_fit_one e.1)) (entries-view path_cmp_total path_cmp_exact c.args.groups.now c.into_iter-path-iterator.ensures.into_iter_gives.5))

pub loop-path-preserved : goal.loop-path-preserved
loop-path-preserved c =
    sym (all_behind_one (λ e. settings_fit_one e.1) _ _ _ true (rest_more deref_pair _ _ _ _ c.in-Some.is c.next.ensures.steps) (sym c.settings_fit.ensures ∙ c.if-not-settings_fit.false))
    ∙ c.loop-path.invariant

pub returns : goal.returns
returns c =
    sym (ap (list_all (λ e. settings_fit_one e.1)) (rest_all deref_pair _ _ _ c.in-None.is c.next.ensures.steps))
    ∙ c.loop-path.invariant
    ∙ sym (ap (list_all (λ e. settings_fit_one e.1)) (entries-view path_cmp_total path_cmp_exact c.args.groups.now c.into_iter-path-iterator.ensures.into_iter_gives.5))
