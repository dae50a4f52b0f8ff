use Rattle.std.proofs.Common.{◌++◌, sym, ap, ◌∙◌}
use Rattle.std.specs.Cmp.{nat_cmp_total}
use Rattle.std.specs.FinMap.{nat_cmp-IsAntisymmetric}
use Rattle.std.specs.List.{flat_map}
use Rattle.std.specs.Map.Iter.{deref_pair}
use Rattle.std.proofs.lemmas.Map.Iter.{rest_all}
use Rattle.cg_maps.proofs.TreeMaps.{entries-view}
use Rattle.cg_world_text.specs.World.{process_line}
use Rattle.cg_world_text.proofs.Appending.{append_none}
use Rattle.cg_world_text.proofs.writing.append_processes.Goals as goal

pub returns-clause-ok : goal.returns-clause-ok
returns-clause-ok c =
    sym (append_none c.loop-pid.out.items)
    ∙ ap (λ es. c.loop-pid.out.items ++ flat_map process_line es) (sym (rest_all deref_pair _ _ _ c.in-None.is c.next.ensures.steps))
    ∙ c.loop-pid.invariant.text
    ∙ ap (λ es. c.args.out.now.items ++ flat_map process_line es) (sym (entries-view nat_cmp_total nat_cmp-IsAntisymmetric c.args.places.now c.into_iter-pid-iterator.ensures.into_iter_gives.5))
