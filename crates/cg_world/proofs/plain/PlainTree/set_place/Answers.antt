use Rattle.std.proofs.Common.{sym, ap, subst, ◌∙◌, Some}
use Rattle.std.specs.Option.{is_some}
use Rattle.std.specs.Cmp.{nat_cmp_total}
use Rattle.std.specs.FinMap.{nat_cmp-IsAntisymmetric}
use Rattle.cg_maps.specs.FiniteMap.{set_at}
use Rattle.cg_maps.proofs.TreeMaps.{get-view, view-insert}
use Rattle.cg_model.specs.Tree.{place_of}
use Rattle.cg_world.specs.Plain.{tree_of}
use Rattle.cg_world.specs.Representable.{IsRepresentable}
use Rattle.cg_world.proofs.Representable.{process_representable, none_known}
use Rattle.cg_world.proofs.Trees.{with_places}
use Rattle.cg_world.proofs.plain.PlainTree.set_place.Goals as goal

pub invariant_of-self-2 : goal.invariant_of-self-2
invariant_of-self-2 c =
    none_known _
    (subst IsRepresentable
    (sym (ap (with_places (tree_of c.self.inside)) (view-insert nat_cmp_total nat_cmp-IsAntisymmetric c.self.inside.places c.insert.new.self c.args.pid c.args.path c.in_ok-former.ensures.updates)))
    (process_representable (tree_of c.self.inside) c.args.pid c.args.path c.self.invariant.representable c.requires c.names.ensures.valid))

pub returns-clause-ok : goal.returns-clause-ok
returns-clause-ok c =
    ap (with_places (tree_of c.self.inside)) (view-insert nat_cmp_total nat_cmp-IsAntisymmetric c.self.inside.places c.insert.new.self c.args.pid c.args.path c.in_ok-former.ensures.updates)
    ∙ ap (λ T. with_places T (set_at T.places c.args.pid (Some c.args.path))) c.self.view_is

pub returns-clause-had : goal.returns-clause-had
returns-clause-had c =
    c.is_some.ensures
    ∙ ap is_some (c.in_ok-former.ensures.old ∙ sym (get-view nat_cmp_total nat_cmp-IsAntisymmetric c.self.inside.places c.args.pid) ∙ ap (λ T. place_of T c.args.pid) c.self.view_is)
