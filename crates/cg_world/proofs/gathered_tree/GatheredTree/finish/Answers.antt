use Rattle.std.proofs.Common.{sym, subst, ◌∙◌}
use Rattle.std.specs.FinMap.{nat_cmp-IsAntisymmetric}
use Rattle.cg_world.specs.GatheredTree.{gathered_tree}
use Rattle.cg_world.specs.Known.{IsAsKnown}
use Rattle.cg_world.proofs.Trees.{with_groups, with_places}
use Rattle.cg_world.proofs.gathered_tree.GatheredTree.finish.Goals as goal

pub from_maps-requires : goal.from_maps-requires
from_maps-requires c =
    subst (λ T. IsAsKnown T c.self.inside.are_places_sound)
    (λ i. with_places (with_groups (gathered_tree c.self.inside) (sym c.in_ok-groups.ensures i)) (sym (c.in_ok-places.ensures nat_cmp-IsAntisymmetric) i))
    c.self.invariant

pub returns : goal.returns
returns c =
    c.from_maps.ensures
    ∙ (λ i. with_places (with_groups (gathered_tree c.self.inside) (c.in_ok-groups.ensures i)) (c.in_ok-places.ensures nat_cmp-IsAntisymmetric i))
    ∙ c.self.view_is
