-- The change tells of the CPUs that the group asked for, as they were looked up.
use Rattle.std.proofs.Common.{rules, ◌≡◌, [], ◌∷◌, Ok, Some, ap, sym, subst, ◌∙◌}
use Rattle.std.specs.declared.alloc.AllocError.{AllocError}
use Rattle.cg_command.specs.Applied.{IsCarriedOut}
use Rattle.cg_command.specs.declared.command.Outcome.TheVariants.{Done}
use Rattle.cg_model.specs.Change.{change}
use Rattle.cg_model.specs.Command as model
use Rattle.cg_model.specs.Effect.{effect}
use Rattle.cg_model.specs.Key.{Part, Cpus}
use Rattle.cg_command.proofs.apply.cpus.Goals as goal

pub returns : goal.returns
unfolding effect
returns c =
    let made : c.of_one.result ≡ change (Part c.args.path.now Cpus) (Some c.in-Some.settings.now.cpus) (Some c.args.value.now) ∷ [] =
    c.of_one.ensures
    ∙ ap (λ x. x ∷ []) c.in_ok-change.ensures.value
    ∙ ap (λ q. change (Part q Cpus) (Some c.in_ok-copy.field-0) (Some c.in_ok-left.left) ∷ []) (c.own.view_is ∙ c.in_ok-own.ensures.value)
    ∙ (λ i. change (Part c.args.path.now Cpus) (Some ((c.in_ok-copy.ensures.value ∙ c.cpus.ensures) i)) (Some (c.in_ok-left.ensures.value i)) ∷ []) in
    subst (λ cs. IsCarriedOut {E = AllocError} (model.Cpus c.args.path.now c.args.value.now) c.args.tree.now (Ok (Done, cs)) c.put_value.new.self) (sym made)
    (search rules)
