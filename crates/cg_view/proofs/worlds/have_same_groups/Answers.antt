-- The maps are the same where their entries are.
use Rattle.std.proofs.Common.{◌∙◌, sym}
use Rattle.std.proofs.lemmas.Bool.Decides.{Decides-at, Decides-like}
use Rattle.cg_name.specs.Order.{path_cmp_total, path_cmp_exact}
use Rattle.cg_view.proofs.Same.{groups, maps}
use Rattle.cg_view.proofs.worlds.have_same_groups.Goals as goal

pub returns : goal.returns
returns c =
    Decides-like _ (λ e. sym c.groups-left.ensures ∙ e ∙ c.groups-right.ensures) (λ e. c.groups-left.ensures ∙ e ∙ sym c.groups-right.ensures)
    (Decides-at _ _ c.eq.ensures (maps path_cmp_total path_cmp_exact _ groups c.groups-left.result.now c.groups-right.result.now c.iter.ensures.ordered c.iter-2.ensures.ordered))
