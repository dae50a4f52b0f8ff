use Rattle.std.proofs.Common.{◌++◌, sym, ap, ◌∙◌}
use Rattle.std.specs.List.{flat_map}
use Rattle.std.specs.Map.Iter.{deref_pair}
use Rattle.std.proofs.lemmas.Map.Iter.{rest_all}
use Rattle.cg_maps.proofs.TreeMaps.{entries-view}
use Rattle.cg_name.specs.Order.{path_cmp_total, path_cmp_exact}
use Rattle.cg_world_text.specs.World.{group_line}
use Rattle.cg_world_text.proofs.Appending.{append_none}
use Rattle.cg_world_text.proofs.writing.append_groups.Goals as goal

pub returns-clause-ok : goal.returns-clause-ok
returns-clause-ok c =
    sym (append_none c.loop-path.out.items)
    ∙ ap (λ es. c.loop-path.out.items ++ flat_map (group_line c.args.version) es) (sym (rest_all deref_pair _ _ _ c.in-None.is c.next.ensures.steps))
    ∙ c.loop-path.invariant.text
    ∙ ap (λ es. c.args.out.now.items ++ flat_map (group_line c.args.version) es) (sym (entries-view path_cmp_total path_cmp_exact c.args.groups.now c.into_iter-path-iterator.ensures.into_iter_gives.5))
