-- What is counted below the path.
use Rattle.std.proofs.Common.{take, ap, sym, ◌∙◌}
use Rattle.cg_maps.specs.FiniteMap.{domain, len, retain}
use Rattle.cg_model.specs.Derived.{descendants}
use Rattle.cg_name.specs.Order.{path_cmp_total, path_cmp_exact}
use Rattle.cg_name.specs.Path.{is_above}
use Rattle.cg_tree.specs.Present.{present}
use Rattle.cg_tree.proofs.Counts.{len-domain-retain}
use Rattle.cg_tree.proofs.tree.Tree.descendants.Goals as goal

pub returns : goal.returns
unfolding descendants
returns c =
    let below = is_above (take c.args.depth c.args.path.now) in
    c.descendants.ensures
    ∙ sym (len-domain-retain path_cmp_total path_cmp_exact (present c.groups.result.now.groups) below)
    ∙ ap (λ m. len (retain (domain m) below)) c.groups.ensures.present
