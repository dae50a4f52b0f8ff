use Rattle.std.proofs.Common.{◌≡◌, ℕ, List, OnOk, IfErr, Result, Ok, Err, inr, refl}
use Rattle.cg_locks.specs.Holdings.{Holdings}
use Rattle.cg_model.specs.Command.{Effect}
use Rattle.cg_model.specs.Footprint.{Mark}
use Rattle.cg_model.specs.System.{Refuse}
use Rattle.cg_name.specs.declared.refusal.Refusal.{Refusal}
use Rattle.cg_core.specs.Refusing.{IsFree, IsRefusedBy}
use Rattle.cg_core.proofs.running.may_run.Goals as goal

-- what holds anyway
anyway : {T E P : Type 0} (r : Result T E) → P → OnOk r P
anyway (Ok v) p = p
anyway (Err e) p = tt

module _ (H : Holdings) (t : ℕ) (f : List Mark) (free : IsFree H t f) (e : Effect) where
  -- nobody is in the way, and the tree refuses
  by_the_tree : {T : Type 0} (r : Result T Refusal) → IfErr r (λ k. e ≡ Refuse k) → IfErr r (λ k. IsRefusedBy H t f e k)
  by_the_tree (Ok v) is = tt
  by_the_tree (Err k) is = inr (free, is)

pub returns-in-None-clause-free : goal.returns-in-None-clause-free
returns-in-None-clause-free c = anyway c.check.result (c.in-None.ensures.none refl)

pub returns-in-None-clause-refused : goal.returns-in-None-clause-refused
returns-in-None-clause-refused c = by_the_tree c.args.locks.now c.args.number.0 c.args.footprint.now (c.in-None.ensures.none refl) _ c.check.result c.check.ensures.refused
