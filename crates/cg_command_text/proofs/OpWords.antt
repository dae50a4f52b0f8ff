-- Words of operations, taken one by one.
use Rattle.std.proofs.Common.{◌≡◌, ◌↔◌, Bool, List, [], ◌∷◌, refl, sym, subst}
use Rattle.cg_name.specs.Controller.{controller_word}
use Rattle.cg_name.specs.declared.controller.Controller.{Controller}
use Rattle.cg_text.specs.Reading.{SpellsOpsAfter, sign_byte, with_op}
use Rattle.cg_text.specs.Words.{Word}
use Rattle.cg_text.specs.declared.control_ops.ControlOps.{ControlOps}
use Rattle.cg_text.proofs.Operations.{same_sign, same_controller}

-- a word is taken, and the others are left
one_taken : (ops : ControlOps) (enables : Bool) (c : Controller) (w : Word) (ws : List Word) (all : ControlOps) → w ≡ sign_byte enables ∷ controller_word c → SpellsOpsAfter ops (w ∷ ws) all ↔ SpellsOpsAfter (with_op enables c ops) ws all
one_taken ops enables c w ws all h = (
  (λ k. subst (λ o. SpellsOpsAfter o ws all) (λ i. with_op (same_sign w k.0 enables k.1 c k.2 h i) (same_controller w k.0 enables k.1 c k.2 h i) ops) k.3),
  (λ k. (enables, c, h, k)),
)

pub next_round : (A : Type 0) (ops new : ControlOps) (enables : Bool) (c : Controller) (w : Word) (left rest : List Word) (all : ControlOps) → left ≡ w ∷ rest → w ≡ sign_byte enables ∷ controller_word c → new ≡ with_op enables c ops → A ↔ SpellsOpsAfter ops left all → A ↔ SpellsOpsAfter new rest all
next_round A ops new enables c w left rest all e h n k =
    let step = one_taken ops enables c w rest all h in (
      (λ a. subst (λ o. SpellsOpsAfter o rest all) (sym n) (step.0 (subst (λ ws. SpellsOpsAfter ops ws all) e (k.0 a)))),
      (λ b. k.1 (subst (λ ws. SpellsOpsAfter ops ws all) (sym e) (step.1 (subst (λ o. SpellsOpsAfter o rest all) n b)))),
    )

pub no_round : (A : Type 0) (ops : ControlOps) (w : Word) (left rest : List Word) (all : ControlOps) → left ≡ w ∷ rest → ((enables : Bool) (c : Controller) → w ≡ sign_byte enables ∷ controller_word c → ⊥) → A ↔ SpellsOpsAfter ops left all → A → ⊥
no_round A ops w left rest all e h k a =
    let s = subst (λ ws. SpellsOpsAfter ops ws all) e (k.0 a) in
    h s.0 s.1 s.2

pub all_taken : (A : Type 0) (ops : ControlOps) (left : List Word) → left ≡ [] → A ↔ SpellsOpsAfter ops left ops → A
all_taken A ops left e k = k.1 (subst (λ ws. SpellsOpsAfter ops ws ops) (sym e) refl)
