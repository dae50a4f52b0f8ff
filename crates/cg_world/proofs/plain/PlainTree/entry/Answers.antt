use Rattle.std.proofs.Common.{sym, ap, ◌∙◌}
use Rattle.std.proofs.lemmas.Option.{IfSome_then}
use Rattle.cg_maps.proofs.TreeMaps.{get-view}
use Rattle.cg_name.specs.Order.{path_cmp_total, path_cmp_exact}
use Rattle.cg_model.specs.Tree.{group}
use Rattle.cg_world.proofs.plain.PlainTree.entry.Goals as goal

pub returns-clause-key : goal.returns-clause-key
returns-clause-key c = IfSome_then c.get_key_value.result c.get_key_value.ensures.same_key (λ e h. sym (path_cmp_exact _ _ h))

pub returns-clause-value : goal.returns-clause-value
returns-clause-value c =
    c.get_key_value.ensures.value
    ∙ sym (get-view path_cmp_total path_cmp_exact c.self.inside.groups c.args.path.now)
    ∙ ap (λ T. group T c.args.path.now) c.self.view_is
