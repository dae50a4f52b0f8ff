-- What the lock table and the tree say of the command's footprint is said of the model's.
use Rattle.std.proofs.Common.{◌≡◌, ℕ, ◌+◌, ◌-◌, length, inl, inr, refl, sym, ap, subst, subst₂, ◌∙◌, arith}
use Rattle.cg_command.specs.Applied.{outcome_of}
use Rattle.cg_command.specs.Meaning.{command_of}
use Rattle.cg_model.specs.Cgroups.{cgroups}
use Rattle.cg_model.specs.Effect.{effect}
use Rattle.cg_model.specs.Footprint.{footprint}
use Rattle.cg_model.specs.History.{Gave, History}
use Rattle.cg_core.specs.Doing.{IsCarriedOut}
use Rattle.cg_core.specs.Refusing.{IsFree, IsRefusedBy}
use Rattle.cg_core.proofs.running.settle.Goals as goal

-- of two slots that were reserved one is given up
one_kept : (k r k' : History cgroups × ℕ) → r ≡ (k.0, k.1 + 2) → k' ≡ (r.0, r.1 - 1) → k' ≡ (k.0, k.1 + 1)
one_kept k r k' reserved released =
    let less : (k.1 + 2) - 1 ≡ k.1 + 1 = omega arith in
    released ∙ ap (λ (p : History cgroups × ℕ). (p.0, p.1 - 1)) reserved ∙ (λ i. (k.0, less i))

pub returns-in-Err-clause-settled : goal.returns-in-Err-clause-settled
returns-in-Err-clause-settled c = inl (record {
  refusal = c.in-Err.refusal;
  by =
      subst₂ (λ t g. IsRefusedBy c.args.locks.now t g (effect (command_of c.args.command.now) c.args.tree.now.tree) c.in-Err.refusal)
      c.number-2.ensures c.in-Ok.ensures
      (subst (λ L. IsRefusedBy L c.number-2.result.0 c.in-Ok.footprint (effect (command_of c.args.command.now) c.args.tree.now.tree) c.in-Err.refusal) c.share.ensures c.in-Err.ensures.refused);
  answer = refl;
  tree = refl;
  locks = c.share.ensures;
  stack = refl;
  history = one_kept _ _ _ c.in-Ok-reserve.ensures.ok c.release.ensures;
})

pub returns-clause-settled : goal.returns-clause-settled
returns-clause-settled c = inr (record {
  free =
      subst₂ (λ t g. IsFree c.args.locks.now t g) c.number-2.ensures c.in-Ok.ensures
      (subst (λ L. IsFree L c.number-2.result.0 c.in-Ok.footprint) c.share.ensures c.in_default-may_run.ensures.free);
  carried =
      subst (λ a. IsCarriedOut (command_of c.args.command.now) (length c.args.history.now.0) (footprint (command_of c.args.command.now) c.args.tree.now.tree) c.args.tree.now c.args.locks.now c.args.txn.now a c.carry_out.new.tree c.carry_out.new.locks c.carry_out.new.txn)
      (sym c.answer_with.ensures)
      (subst₂ (λ k g. IsCarriedOut (command_of c.args.command.now) k g c.args.tree.now c.args.locks.now c.args.txn.now (Gave (outcome_of c.in-Ok-carry_out.outcome)) c.carry_out.new.tree c.carry_out.new.locks c.carry_out.new.txn)
      (c.len-place.ensures ∙ ap (λ (p : History cgroups × ℕ). length p.0) c.in-Ok-reserve.ensures.ok) c.in-Ok.ensures
      (subst (λ L. IsCarriedOut (command_of c.args.command.now) c.len-place.result c.in-Ok.footprint c.args.tree.now L c.args.txn.now (Gave (outcome_of c.in-Ok-carry_out.outcome)) c.carry_out.new.tree c.carry_out.new.locks c.carry_out.new.txn)
      c.share.ensures c.in-Ok-carry_out.ensures.done));
  history = c.in-Ok-reserve.ensures.ok;
})
