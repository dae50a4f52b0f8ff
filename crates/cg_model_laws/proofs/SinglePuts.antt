-- Lawful changes one by one.
use Rattle.std.proofs.Common.{◌≡◌, ℕ, List, [], ◌∷◌, refl, sym, ap, subst, ◌∙◌, Option, Some, option_map, eq-eqb}
use Rattle.std.proofs.lemmas.Bool.{or_left}
use Rattle.std.specs.List.{AllByRecursion}
use Rattle.cg_maps.specs.FiniteSet.{FiniteSet}
use Rattle.cg_name.specs.Path.{Path}
use Rattle.cg_text.specs.declared.settings.Settings.{Settings}
use Rattle.cg_model.specs.Tree.{Tree, group, place_of}
use Rattle.cg_model.specs.Key.{Field, Setting, setting, Key, Group, Place, Part, Online, ValueOf, part_replaced, replaced}
use Rattle.cg_model.specs.Change.{change}
use Rattle.cg_model.specs.Footprint.{Mark, X, N, Pid, counts, old_place}
use Rattle.cg_model_laws.proofs.Lists.{all_map}
use Rattle.cg_model_laws.proofs.Paths.{prefix_itself}
use Rattle.cg_model_laws.proofs.Fields.{setting_there}
use Rattle.cg_model_laws.proofs.Keys.{group_here, place_here}
use Rattle.cg_model_laws.proofs.Lawful.{Under, IsLawfulPut, IsLawful}

behind : (m : Mark) (f g : List Mark) → AllByRecursion (Under f) g → AllByRecursion (Under (m ∷ f)) g
behind m f g h = all_map (λ x u n a. u n a.1) g h

-- a footprint covers its own marks
each_under : (f : List Mark) → AllByRecursion (Under f) f
each_under [] = tt
each_under (m ∷ f) = (λ n a. a.0, behind m f f (each_under f))

-- one change alone
pub lawful_alone : (T : Tree) (f : List Mark) (k : Key) (b l : Option (ValueOf k)) → IsLawfulPut f T k b l → IsLawful f T (change k b l ∷ [])
lawful_alone T f k b l h = (h, tt, tt, tt)

module _ (T : Tree) where
  pub part_put : (p : Path) (f : Field) (v : Setting f) (s : Settings) → group T p ≡ Some s → IsLawfulPut (X p ∷ []) T (Part p f) (Some (setting f s)) (Some v)
  part_put p f v s e = record {
    was = ap (option_map (setting f)) e;
    is = ap (option_map (setting f)) (group_here T p _ ∙ ap (part_replaced f (Some v)) e) ∙ ap Some (setting_there f v s);
    marked = or_left _ _ (prefix_itself p);
    covered = each_under (X p ∷ []);
  }

  pub group_put : (p : Path) (b l : Option Settings) → group T p ≡ b → IsLawfulPut (X p ∷ counts T p) T (Group p) b l
  group_put p b l e = record { was = e; is = group_here T p l; marked = or_left _ _ (prefix_itself p); covered = each_under (X p ∷ counts T p) }

  pub place_put : (k : ℕ) (p q : Path) → place_of T k ≡ Some q → IsLawfulPut (Pid k ∷ N p ∷ old_place (place_of T k)) T (Place k) (Some q) (Some p)
  place_put k p q e = record {
    was = e;
    is = place_here T k _ ∙ ap (λ o. replaced o (Some p)) e;
    marked = or_left _ _ (eq-eqb k k refl);
    covered = subst (λ o. AllByRecursion (Under (Pid k ∷ N p ∷ old_place o)) (Pid k ∷ N q ∷ N p ∷ [])) (sym e) (λ n a. a.0, (λ n a. a.1.1.0, (λ n a. a.1.0, tt)));
  }

  pub online_put : (v : FiniteSet) → IsLawfulPut (X [] ∷ []) T Online (Some T.online) (Some v)
  online_put v = record { was = refl; is = refl; marked = refl; covered = each_under (X [] ∷ []) }
