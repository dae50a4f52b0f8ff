-- What holds of a write to cgroup.subtree_control, by what is planned.
use Rattle.std.proofs.Common.{◌≡◌, Bool, false, not, ◌&&◌, List, [], ◌∷◌, Result, Ok, Err, refl}
use Rattle.std.proofs.lemmas.Bool.{cond_both}
use Rattle.cg_name.specs.Path.{Path}
use Rattle.cg_name.specs.declared.controller.Controller.{Controller}
use Rattle.cg_name.specs.declared.refusal.Refusal.{Refusal}
use Rattle.cg_name.specs.declared.refusal.Refusal.TheVariants.{HasProcesses, Unavailable, InUse}
use Rattle.cg_text.specs.Controllers.{is_no_controllers}
use Rattle.cg_text.specs.declared.control_ops.ControlOps.{ControlOps}
use Rattle.cg_text.specs.declared.controllers.Controllers.{Controllers}
use Rattle.cg_text.specs.declared.settings.Settings.{Settings}
use Rattle.cg_model.specs.System.{Done, Refuse, Accept}
use Rattle.cg_model.specs.Command.{Effect}
use Rattle.cg_model.specs.Control.{planned, not_available, in_use, refuse_first, plan, controlled, by_plan}

module _ (P : Effect → Type 0) (p : Path) (s : Controllers) (children : List (Path × Settings)) where
  past : (f : Controller → Refusal) (cs : List Controller) (r : Result Controllers Refusal) → ((c : Controller) → P (Refuse (f c)))
      → (cs ≡ [] → P (by_plan p s children r)) → P (by_plan p s children (refuse_first f cs r))
  past f [] r refused h = h refl
  past f (c ∷ cs) r refused h = refused c

  -- it is refused for a controller or for processes, or for none of them
  pub planned_both : (a : Controllers) (ops : ControlOps) (used : Controllers) (processes root : Bool)
      → ((c : Controller) → P (Refuse (Unavailable c))) → ((c : Controller) → P (Refuse (InUse c))) → P (Refuse HasProcesses)
      → (not_available a s ops ≡ [] → in_use s ops used ≡ [] → (not root && processes && not (is_no_controllers (planned s ops))) ≡ false
      → P (Accept Done (controlled p s (planned s ops) children)))
      → P (by_plan p s children (plan a s ops used processes root))
  planned_both a ops used processes root missing busy internal accepted =
      past Unavailable (not_available a s ops) _ missing (λ none_missing.
      past InUse (in_use s ops used) _ busy (λ none_used.
      cond_both (not root && processes && not (is_no_controllers (planned s ops))) (Err HasProcesses) (Ok (planned s ops)) (λ r. P (by_plan p s children r))
      (λ _. internal) (accepted none_missing none_used)))
