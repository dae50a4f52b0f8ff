use Rattle.std.proofs.Common.{sym, ap, ◌∙◌}
use Rattle.std.specs.Cmp.{nat_cmp_total}
use Rattle.std.specs.FinMap.{nat_cmp-IsAntisymmetric}
use Rattle.cg_maps.proofs.TreeMaps.{get-view}
use Rattle.cg_model.specs.Tree.{place_of}
use Rattle.cg_world.proofs.plain.PlainTree.location.Goals as goal

pub returns : goal.returns
returns c =
    c.get.ensures.value
    ∙ sym (get-view nat_cmp_total nat_cmp-IsAntisymmetric c.self.inside.places c.args.pid)
    ∙ ap (λ T. place_of T c.args.pid) c.self.view_is
