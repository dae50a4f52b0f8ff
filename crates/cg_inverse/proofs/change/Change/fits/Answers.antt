-- What is compared is what the key holds.
use Rattle.std.proofs.Common.{◌≡◌, not, Some, None, sym, subst, ap, ◌∙◌}
use Rattle.std.proofs.lemmas.Bool.Decides.{Decides-at, Decides-like}
use Rattle.std.proofs.lemmas.Option.{same_Some}
use Rattle.std.specs.Bool.{Decides}
use mathlib.Core.Bool.{beq}
use Rattle.cg_inverse.specs.Meaning.{change_of, FitsIn}
use Rattle.cg_model.specs.Tree.{group}
use Rattle.cg_text.specs.Settings.{fresh}
use Rattle.cg_boxed.proofs.Deciding.{bools_decide, controllers_decide, limits_decide, sets_decide}
use Rattle.cg_inverse.proofs.Values.{absence_decides, places_decide, part_there, part_absent}
use Rattle.cg_inverse.proofs.change.Change.fits.Goals as goal

pub returns-in-Made : goal.returns-in-Made
returns-in-Made c =
    subst (λ x. Decides c.is_new.result (FitsIn c.args.tree.now.tree (change_of x))) (sym c.in-Made.is)
    (subst (λ o. Decides c.is_new.result (o ≡ Some fresh)) c.settings.ensures c.is_new.ensures)

pub returns-in-Removed : goal.returns-in-Removed
returns-in-Removed c =
    subst (λ x. Decides (not c.find.result) (FitsIn c.args.tree.now.tree (change_of x))) (sym c.in-Removed.is)
    (subst (λ r. Decides (not r) (group c.args.tree.now.tree c.in-Removed.path ≡ None)) (sym c.find.ensures.value) (absence_decides _))

pub returns-in-Place : goal.returns-in-Place
returns-in-Place c =
    subst (λ x. Decides c.is_at.result (FitsIn c.args.tree.now.tree (change_of x))) (sym c.in-Place.is)
    (Decides-at _ _ c.is_at.ensures (places_decide c.in-Place.left _))

pub returns-in-Some : goal.returns-in-Some
returns-in-Some c =
    part_there c.args.tree.now.tree (ap change_of c.in-Control.is) _ c.in-Some.settings.now c.in-Some.ensures
    (subst (λ v. Decides c.eq.result (v ≡ c.in-Control.left)) c.control.ensures (Decides-at _ _ c.eq.ensures (controllers_decide _ _)))

pub returns-in-None : goal.returns-in-None
returns-in-None c = part_absent c.args.tree.now.tree (ap change_of c.in-Control.is) c.in-None.ensures

pub returns-in-Some-settings : goal.returns-in-Some-settings
returns-in-Some-settings c =
    part_there c.args.tree.now.tree (ap change_of c.in-Freeze.is) _ c.in-Some-settings.settings.now c.in-Some-settings.ensures
    (subst (λ v. Decides (beq c.freeze.result c.in-Freeze.left) (v ≡ c.in-Freeze.left)) c.freeze.ensures (bools_decide _ _))

pub returns-in-None-settings : goal.returns-in-None-settings
returns-in-None-settings c = part_absent c.args.tree.now.tree (ap change_of c.in-Freeze.is) c.in-None-settings.ensures

pub returns-in-Some-settings-2 : goal.returns-in-Some-settings-2
returns-in-Some-settings-2 c =
    part_there c.args.tree.now.tree (ap change_of c.in-LowCpus.is) _ c.in-Some-settings-2.settings.now c.in-Some-settings-2.ensures
    (subst (λ v. Decides c.eq-in-Some-settings-2.result (v ≡ c.in-LowCpus.left)) c.cpus.ensures
    (subst (λ v. Decides c.eq-in-Some-settings-2.result (c.cpus.result.now ≡ v)) c.boxed.ensures (Decides-at _ _ c.eq-in-Some-settings-2.ensures (sets_decide _ _))))

pub returns-in-None-settings-2 : goal.returns-in-None-settings-2
returns-in-None-settings-2 c = part_absent c.args.tree.now.tree (ap change_of c.in-LowCpus.is) c.in-None-settings-2.ensures

pub returns-in-Some-settings-3 : goal.returns-in-Some-settings-3
returns-in-Some-settings-3 c =
    part_there c.args.tree.now.tree (ap change_of c.in-WideCpus.is) _ c.in-Some-settings-3.settings.now c.in-Some-settings-3.ensures
    (subst (λ v. Decides c.eq-in-Some-settings-3.result (v ≡ c.in-WideCpus.both.value.left)) c.cpus-in-Some-settings-3.ensures
    (subst (λ b. Decides c.eq-in-Some-settings-3.result (c.cpus-in-Some-settings-3.result.now ≡ b.left)) c.deref.ensures (Decides-at _ _ c.eq-in-Some-settings-3.ensures (sets_decide _ _))))

pub returns-in-None-settings-3 : goal.returns-in-None-settings-3
returns-in-None-settings-3 c = part_absent c.args.tree.now.tree (ap change_of c.in-WideCpus.is) c.in-None-settings-3.ensures

pub returns-in-Some-settings-4 : goal.returns-in-Some-settings-4
returns-in-Some-settings-4 c =
    part_there c.args.tree.now.tree (ap change_of c.in-MaxDescendants.is) _ c.in-Some-settings-4.settings.now c.in-Some-settings-4.ensures
    (subst (λ v. Decides c.eq-in-Some-settings-4.result (v ≡ c.in-MaxDescendants.left)) c.max_descendants.ensures (Decides-at _ _ c.eq-in-Some-settings-4.ensures (limits_decide _ _)))

pub returns-in-None-settings-4 : goal.returns-in-None-settings-4
returns-in-None-settings-4 c = part_absent c.args.tree.now.tree (ap change_of c.in-MaxDescendants.is) c.in-None-settings-4.ensures

pub returns-in-Some-settings-5 : goal.returns-in-Some-settings-5
returns-in-Some-settings-5 c =
    part_there c.args.tree.now.tree (ap change_of c.in-MaxDepth.is) _ c.in-Some-settings-5.settings.now c.in-Some-settings-5.ensures
    (subst (λ v. Decides c.eq-in-Some-settings-5.result (v ≡ c.in-MaxDepth.left)) c.max_depth.ensures (Decides-at _ _ c.eq-in-Some-settings-5.ensures (limits_decide _ _)))

pub returns-in-None-settings-5 : goal.returns-in-None-settings-5
returns-in-None-settings-5 c = part_absent c.args.tree.now.tree (ap change_of c.in-MaxDepth.is) c.in-None-settings-5.ensures

pub returns-in-Online : goal.returns-in-Online
returns-in-Online c =
    subst (λ x. Decides c.eq-in-Online.result (FitsIn c.args.tree.now.tree (change_of x))) (sym c.in-Online.is)
    (Decides-like _ (λ e. ap Some (sym c.online.ensures ∙ e)) (λ e. c.online.ensures ∙ same_Some _ _ e)
    (subst (λ v. Decides c.eq-in-Online.result (c.online.result ≡ v)) c.get.ensures (Decides-at _ _ c.eq-in-Online.ensures (sets_decide c.online.result c.get.result))))
