-- Settings are compared exactly.
use Rattle.std.proofs.Common.{◌≡◌, Some, option_copied, ap, subst, sym}
use Rattle.std.proofs.lemmas.Bool.Decides.{Decides-at, Decides-like}
use Rattle.std.proofs.lemmas.Option.{same_Some}
use Rattle.std.specs.Bool.{Decides}
use Rattle.cg_boxed.proofs.Deciding.{settings_decide}
use Rattle.cg_text.specs.Settings.{fresh}
use Rattle.cg_inverse.proofs.change.is_new.Goals as goal

pub returns-in-Some : goal.returns-in-Some
returns-in-Some c =
    subst (λ o. Decides c.eq.result (option_copied o ≡ Some fresh)) (sym c.in-Some.is)
    (Decides-like _ (λ e. ap Some e) (λ e. same_Some _ _ e)
    (subst (λ s. Decides c.eq.result (c.in-Some.settings.now ≡ s)) c.fresh.ensures (Decides-at _ _ c.eq.ensures (settings_decide _ _))))
