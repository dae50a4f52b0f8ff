use Rattle.std.proofs.Common.{◌≡◌, ◌<◌, ℕ, true, sym, ap, subst, ◌∙◌, Some}
use Rattle.std.specs.Option.{is_some}
use Rattle.cg_maps.specs.FiniteMap.{set_at}
use Rattle.cg_maps.specs.FiniteSet.{has}
use Rattle.cg_maps.proofs.TreeMaps.{get-view, view-insert}
use Rattle.cg_name.specs.Order.{path_cmp_total, path_cmp_exact}
use Rattle.cg_model.specs.Tree.{group}
use Rattle.cg_world.specs.Plain.{tree_of}
use Rattle.cg_world.specs.Representable.{IsRepresentable}
use Rattle.cg_world.proofs.Representable.{group_representable, none_known, up_to_last}
use Rattle.cg_world.proofs.Trees.{with_groups}
use Rattle.cg_world.proofs.plain.PlainTree.set_group.Goals as goal

pub invariant_of-self-2 : goal.invariant_of-self-2
invariant_of-self-2 c =
    none_known _
    (subst IsRepresentable
    (sym (ap (with_groups (tree_of c.self.inside)) (view-insert path_cmp_total path_cmp_exact c.self.inside.groups c.insert.new.self c.args.path c.args.settings c.in_ok-former.ensures.updates)))
    (group_representable (tree_of c.self.inside) c.args.path c.args.settings c.self.invariant.representable c.names.ensures.valid (up_to_last c.args.settings.cpus (subst (λ s. (n : ℕ) → has s n ≡ true → n < 1024) c.cpus.ensures c.contains.ensures.below))))

pub returns-clause-ok : goal.returns-clause-ok
returns-clause-ok c =
    ap (with_groups (tree_of c.self.inside)) (view-insert path_cmp_total path_cmp_exact c.self.inside.groups c.insert.new.self c.args.path c.args.settings c.in_ok-former.ensures.updates)
    ∙ ap (λ T. with_groups T (set_at T.groups c.args.path (Some c.args.settings))) c.self.view_is

pub returns-clause-had : goal.returns-clause-had
returns-clause-had c =
    c.is_some.ensures
    ∙ ap is_some (c.in_ok-former.ensures.old ∙ sym (get-view path_cmp_total path_cmp_exact c.self.inside.groups c.args.path) ∙ ap (λ T. group T c.args.path) c.self.view_is)
