-- What a write is refused for: the first of a list, or processes where controllers are left.
use Rattle.std.proofs.Common.{◌≡◌, Bool, true, false, cond, not, ◌&&◌, ◌||◌, List, [], ◌∷◌, Some, None, Result, Ok, Err, refl, sym, ap, ◌∙◌}
use Rattle.std.specs.List.{filter, find}
use Rattle.cg_name.specs.declared.controller.Controller.{Controller}
use Rattle.cg_name.specs.declared.refusal.Refusal.{Refusal}
use Rattle.cg_name.specs.declared.refusal.Refusal.TheVariants.{HasProcesses, Unavailable, InUse}
use Rattle.cg_text.specs.Controllers.{has, such_that, all_controllers, is_no_controllers}
use Rattle.cg_text.specs.declared.control_ops.ControlOps.{ControlOps}
use Rattle.cg_text.specs.declared.controllers.Controllers.{Controllers}
use Rattle.cg_model.specs.Control.{planned, refuse_first, plan}

module _ (f : Controller → Refusal) (r : Result Controllers Refusal) (p : Controller → Bool) where
  -- refused for the first that is found
  refused : (xs : List Controller) (c : Controller) → find p xs ≡ Some c → refuse_first f (filter p xs) r ≡ Err (f c)
  refused [] c e = cc e
  refused (x ∷ xs) c e =
      (elim (p x) as (λ b. cond b (Some x) (find p xs) ≡ Some c → refuse_first f (cond b (x ∷ filter p xs) (filter p xs)) r ≡ Err (f c)) [
        | true ↦ λ h. cc h
        | false ↦ refused xs c
      ]) e

  -- passed on where none is found
  passed : (xs : List Controller) → find p xs ≡ None → refuse_first f (filter p xs) r ≡ r
  passed [] e = refl
  passed (x ∷ xs) e =
      (elim (p x) as (λ b. cond b (Some x) (find p xs) ≡ None → refuse_first f (cond b (x ∷ filter p xs) (filter p xs)) r ≡ r) [
        | true ↦ λ h. cc h
        | false ↦ passed xs
      ]) e

-- by what is available, the set that is enabled, the operations, and what the children use
module _ (a s : Controllers) (ops : ControlOps) (used : Controllers) (processes root : Bool) where
  abbrev pub is_missing : Controller → Bool
  is_missing c = has ops.plus c && not (has s c) && not (has a c)

  abbrev pub is_used : Controller → Bool
  is_used c = has ops.minus c && has s c && has used c

  pub for_missing : (c : Controller) → find is_missing all_controllers ≡ Some c → plan a s ops used processes root ≡ Err (Unavailable c)
  for_missing c e = refused Unavailable _ is_missing all_controllers c e

  module _ (none_missing : find is_missing all_controllers ≡ None) where
    pub for_used : (c : Controller) → find is_used all_controllers ≡ Some c → plan a s ops used processes root ≡ Err (InUse c)
    for_used c e = passed Unavailable _ is_missing all_controllers none_missing ∙ refused InUse _ is_used all_controllers c e

    -- where none is used either: for processes where controllers are left, or accepted
    pub past_both : find is_used all_controllers ≡ None → (u t : Controllers) → u ≡ such_that (λ c. has s c || has ops.plus c)
        → t ≡ such_that (λ c. has u c && not (has ops.minus c)) → (empty : Bool) → is_no_controllers t ≡ empty
        → plan a s ops used processes root ≡ cond (not root && processes && not empty) (Err HasProcesses) (Ok t)
    past_both none_used u t united differs empty e =
        let same : t ≡ planned s ops = differs ∙ ap (λ u. such_that (λ c. has u c && not (has ops.minus c))) united in
        passed Unavailable _ is_missing all_controllers none_missing ∙ passed InUse _ is_used all_controllers none_used
        ∙ ap (λ t. cond (not root && processes && not (is_no_controllers t)) (Err HasProcesses) (Ok t)) (sym same)
        ∙ ap (λ b. cond (not root && processes && not b) (Err HasProcesses) (Ok t)) e
