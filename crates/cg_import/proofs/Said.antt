-- What the text says that was read of a file.
use Rattle.std.proofs.Common.{◌≡◌, ◌↔◌, ℕ, ◌&&◌, Bool, true, false, IsTrue, List, Option, Some, refl, sym, ap, subst, ◌∙◌, inr}
use Rattle.std.specs.Prelude.{IfSome}
use Rattle.std.proofs.lemmas.Option.{none-some}
use Rattle.cg_import.proofs.Known.{also}
use Rattle.cg_name.specs.declared.controller.Controller.{Controller}
use Rattle.cg_text.specs.Controllers.{has, no_controllers}
use Rattle.cg_text.specs.declared.controllers.Controllers.{Controllers}
use Rattle.cg_import.specs.Files.{Known, Missing, IsReadOf, IsSaid}
use Rattle.cg_import.specs.Values.{NamesController, SpellsNamed, SpellsPassedOn}

module _ (file : Known) (missing : Missing) (name : List ℕ) (read : Option (List ℕ)) (text : List ℕ) (is : IsReadOf file missing name read) (some : read ≡ Some text) where
  -- the bytes that are known are the text,
  pub known : IfSome (file name) (λ bytes. text ≡ bytes)
  known = let h : IfSome (Some text) (λ t. IfSome (file name) (λ bytes. t ≡ bytes)) = subst (λ r. IfSome r (λ t. IfSome (file name) (λ bytes. t ≡ bytes))) some is.bytes in h

  -- the file isn't missing,
  pub there : missing name ≡ true → ⊥
  there e = absurd (none-some _ (sym (is.absent e) ∙ some))

  -- the controllers that it names are named in the file,
  pub names_in : (s named : Controllers) → s ≡ named → ((c : Controller) → IsTrue (has named c) ↔ NamesController text c) → IfSome (file name) (λ bytes. (c : Controller) → IsTrue (has s c) ↔ NamesController bytes c)
  names_in s named e names =
      also (file name) (λ bytes. text ≡ bytes) (λ bytes. (c : Controller) → IsTrue (has s c) ↔ NamesController bytes c) known
      (λ bytes same c. subst (λ t. IsTrue (has s c) ↔ NamesController t c) same (subst (λ x. IsTrue (has x c) ↔ NamesController text c) (sym e) (names c)))

  -- and the controllers that both the text names and are passed on from above are what it says
  pub passes_on : (control named above : Controllers) → ((c : Controller) → IsTrue (has named c) ↔ NamesController text c) → ((c : Controller) → has control c ≡ (has named c && has above c)) → IsSaid file missing name (SpellsPassedOn above) no_controllers control
  passes_on control named above names both = record {
    says = inr (also (file name) (λ bytes. text ≡ bytes) (λ bytes. SpellsPassedOn above bytes control) known (λ bytes e. subst (λ t. SpellsPassedOn above t control) e each));
    absent = λ e. absurd (there e);
  }
    where
      split : (a b : Bool) → a && b ≡ true → (a ≡ true) × (b ≡ true)
      split true b e = (refl, e)
      split false b e = absurd (cc e)

      join : (a b : Bool) → a ≡ true → b ≡ true → a && b ≡ true
      join a b e f = ap (λ x. x && b) e ∙ f

      each : SpellsPassedOn above text control
      each c = (
        (λ h. let k = split (has named c) (has above c) (sym (both c) ∙ h) in ((names c).0 k.0, k.1)),
        (λ h. both c ∙ join (has named c) (has above c) ((names c).1 h.0) h.1),
      )

  -- or else all that it names, where these are
  pub passes_all : (control named : Controllers) → SpellsNamed text named → control ≡ named → IsSaid file missing name SpellsNamed no_controllers control
  passes_all control named names same = record {
    says = inr (also (file name) (λ bytes. text ≡ bytes) (λ bytes. SpellsNamed bytes control) known (λ bytes e. subst (λ t. SpellsNamed t control) e (subst (SpellsNamed text) (sym same) names)));
    absent = λ e. absurd (there e);
  }
