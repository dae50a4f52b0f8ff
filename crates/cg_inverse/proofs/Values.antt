-- Values of keys are compared exactly.
use Rattle.std.proofs.Common.{◌≡◌, Bool, true, false, not, Option, Some, None, is_some, refl, sym, ap, subst, ◌∙◌}
use Rattle.std.proofs.lemmas.Bool.{false≢true}
use Rattle.std.proofs.lemmas.Bool.Decides.{Decides-like}
use Rattle.std.proofs.lemmas.Option.{none-some, same_Some}
use Rattle.std.specs.Bool.{Decides}
use Rattle.std.specs.Option.{option_map}
use Rattle.cg_maps.proofs.Maps as maps
use Rattle.cg_name.specs.Order.{path_cmp_total, path_cmp_exact}
use Rattle.cg_name.specs.Path.{Path, same_path}
use Rattle.cg_text.specs.declared.settings.Settings.{Settings}
use Rattle.cg_model.specs.Change.{Change, change}
use Rattle.cg_model.specs.Derived.{is_in}
use Rattle.cg_model.specs.Key.{Field, Setting, setting, Part}
use Rattle.cg_model.specs.Tree.{Tree, group}
use Rattle.cg_inverse.specs.Meaning.{FitsIn}

-- a group that is not there
pub absence_decides : (o : Option Settings) → Decides (not (is_some o)) (o ≡ None)
absence_decides None = (λ _. refl, λ _. refl)
absence_decides (Some s) = (λ e. absurd (false≢true e), λ e. absurd (none-some s (sym e)))

-- the group of a process that may be there
pub places_decide : (q : Path) (o : Option Path) → Decides (is_in q o) (o ≡ Some q)
unfolding same_path
places_decide q None = (λ e. absurd (false≢true e), λ e. absurd (none-some q e))
places_decide q (Some p) = (λ e. ap Some (sym (maps.is_same path_cmp_total path_cmp_exact q p e)), λ e. subst (λ r. same_path q r ≡ true) (sym (same_Some p q e)) (maps.here path_cmp_total path_cmp_exact q))

-- a change of a setting fits a group that is there where that has the value left, and no other
module _ (T : Tree) {p : Path} {f : Field} {b v : Setting f} {c : Change} (is : c ≡ change (Part p f) (Some b) (Some v)) where
  pub part_there : (r : Bool) (s : Settings) → Some s ≡ group T p → Decides r (setting f s ≡ v) → Decides r (FitsIn T c)
  part_there r s e d =
      subst (λ w. Decides r (FitsIn T w)) (sym is)
      (Decides-like r (λ h. ap (option_map (setting f)) (sym e) ∙ ap Some h) (λ h. same_Some _ _ (ap (option_map (setting f)) e ∙ h)) d)

  pub part_absent : None ≡ group T p → Decides false (FitsIn T c)
  part_absent e =
      subst (λ w. Decides false (FitsIn T w)) (sym is)
      (λ h. absurd (false≢true h), λ h. absurd (none-some v (ap (option_map (setting f)) e ∙ h)))
