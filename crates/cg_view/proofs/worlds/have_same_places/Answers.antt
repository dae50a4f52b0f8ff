-- The maps are the same where their entries are.
use Rattle.std.proofs.Common.{◌∙◌, sym}
use Rattle.std.proofs.lemmas.Bool.Decides.{Decides-at, Decides-like}
use Rattle.std.specs.Cmp.{nat_cmp_total}
use Rattle.std.specs.FinMap.{nat_cmp-IsAntisymmetric}
use Rattle.cg_view.proofs.Same.{maps, processes}
use Rattle.cg_view.proofs.worlds.have_same_places.Goals as goal

pub returns : goal.returns
returns c =
    Decides-like _ (λ e. sym c.places-left.ensures ∙ e ∙ c.places-right.ensures) (λ e. c.places-left.ensures ∙ e ∙ sym c.places-right.ensures)
    (Decides-at _ _ c.eq.ensures (maps nat_cmp_total nat_cmp-IsAntisymmetric _ processes c.places-left.result.now c.places-right.result.now c.iter.ensures.ordered c.iter-2.ensures.ordered))
