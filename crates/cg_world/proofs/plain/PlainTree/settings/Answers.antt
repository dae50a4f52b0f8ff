use Rattle.std.proofs.Common.{sym, ap, ◌∙◌}
use Rattle.cg_maps.proofs.TreeMaps.{get-view}
use Rattle.cg_name.specs.Order.{path_cmp_total, path_cmp_exact}
use Rattle.cg_model.specs.Tree.{group}
use Rattle.cg_world.proofs.plain.PlainTree.settings.Goals as goal

pub returns : goal.returns
returns c =
    c.get.ensures.value
    ∙ sym (get-view path_cmp_total path_cmp_exact c.self.inside.groups c.args.path.now)
    ∙ ap (λ T. group T c.args.path.now) c.self.view_is
