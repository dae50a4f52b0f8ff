-- A plan rests on what the children use only as far as that is to be disabled.
use Rattle.std.proofs.Common.{◌≡◌, ◌&&◌, Bool, cond, not, [], filter, Ok, Err, sym, ap, ◌∙◌}
use Rattle.cg_name.specs.declared.refusal.Refusal.TheVariants.{HasProcesses, InUse, Unavailable}
use Rattle.cg_text.specs.Controllers.{has, all_controllers, is_no_controllers, no_controllers}
use Rattle.cg_text.specs.declared.control_ops.ControlOps.{ControlOps}
use Rattle.cg_text.specs.declared.controllers.Controllers.{Controllers}
use Rattle.cg_model.specs.Control.{in_use, not_available, plan, planned, refuse_first}

pub plan_by_use : (a s : Controllers) (ops : ControlOps) (used used' : Controllers) (processes root : Bool) → in_use s ops used ≡ in_use s ops used' → plan a s ops used processes root ≡ plan a s ops used' processes root
plan_by_use a s ops used used' processes root e =
    ap (λ l. refuse_first Unavailable (not_available a s ops) (refuse_first InUse l (cond (not root && processes && not (is_no_controllers (planned s ops))) (Err HasProcesses) (Ok (planned s ops))))) e

none_in_use : (s : Controllers) (ops : ControlOps) (used : Controllers) → ops.minus ≡ no_controllers → in_use s ops used ≡ []
none_in_use s ops used e = ap (λ m. filter (λ c. has m c && has s c && has used c) all_controllers) e

-- where none is to be disabled, none is in use
pub disables_none : (s : Controllers) (ops : ControlOps) (used used' : Controllers) → ops.minus ≡ no_controllers → in_use s ops used ≡ in_use s ops used'
disables_none s ops used used' e = none_in_use s ops used e ∙ sym (none_in_use s ops used' e)
