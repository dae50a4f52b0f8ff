-- Operations, taken word by word.
use Rattle.std.proofs.Common.{◌≡◌, ℕ, ◌+◌, ◌<◌, ◌==◌, ◌↔◌, suc, Bool, true, false, cond, List, [], ◌∷◌, length, get_or, drop, filter, map, Option, Some, None, refl, sym, ap, subst, ◌∙◌, add-one, drop-cons}
use Rattle.std.specs.Iterator.{Yields}
use Rattle.std.specs.Str.{IsUtf8}
use Rattle.std.proofs.lemmas.Iterator.{YieldsList}
use mathlib.Core.HLevel.{Σ_prop_path}
use Rattle.std.proofs.Math.Bool.{Bool-set}
use Rattle.std.proofs.lemmas.Iterator.Consumers.{YieldsList-turn, YieldsList-end}
use Rattle.cg_name.specs.Controller.{controller_word}
use Rattle.cg_name.specs.declared.controller.Controller.{Controller}
use Rattle.cg_name.specs.declared.controller.Controller.TheVariants.{Cpuset, Cpu, Io, Memory, Hugetlb, Pids, Rdma, Misc}
use Rattle.cg_text.specs.Controllers.{AreApart}
use Rattle.cg_text.specs.Laws.{OpsAreTheirSets}
use Rattle.cg_text.specs.Reading.{sign_byte, with_op, SpellsOpsAfter}
use Rattle.cg_text.specs.Words.{Word, is_filled}
use Rattle.cg_text.specs.declared.control_ops.ControlOps.{ControlOps}
use Rattle.cg_text.specs.declared.controllers.Controllers.{Controllers}

-- operations with the same sets are one
pub same_ops : OpsAreTheirSets
same_ops o p e f =
    let pairs : ◌≡◌ {A = (s : Controllers × Controllers) × AreApart s.0 s.1} ((o.plus, o.minus), o.apart) ((p.plus, p.minus), p.apart) = Σ_prop_path (λ s. hlevel Bool-set) (λ i. (e i, f i)) in
    λ i. record { plus = (pairs i).0.0; minus = (pairs i).0.1; apart = (pairs i).1 }

-- a word that enables or disables a controller
abbrev pub op_word : Bool → Controller → Word
op_word enables c = sign_byte enables ∷ controller_word c

-- ---- what an operation's word tells

abbrev sign_of : Word → Bool
sign_of w = get_or w 0 0 == 43

-- a controller is told by its name's length and first letter
abbrev named : Word → Controller
named w =
    cond (length w == 4) Cpu (cond (length w == 3) Io (cond (length w == 8) Hugetlb (cond (length w == 7) (cond (get_or w 1 0 == 99) Cpuset Memory) (cond (get_or w 1 0 == 112) Pids (cond (get_or w 1 0 == 114) Rdma Misc)))))

sign_of-word : (enables : Bool) (c : Controller) → sign_of (op_word enables c) ≡ enables
sign_of-word true c = refl
sign_of-word false c = refl

named-word : (enables : Bool) (c : Controller) → named (op_word enables c) ≡ c
named-word enables Cpuset = refl
named-word enables Cpu = refl
named-word enables Io = refl
named-word enables Memory = refl
named-word enables Hugetlb = refl
named-word enables Pids = refl
named-word enables Rdma = refl
named-word enables Misc = refl

pub same_sign : (w : Word) (e f : Bool) (c d : Controller) → w ≡ op_word e c → w ≡ op_word f d → e ≡ f
same_sign w e f c d h k = sym (sign_of-word e c) ∙ ap sign_of (sym h ∙ k) ∙ sign_of-word f d

pub same_controller : (w : Word) (e f : Bool) (c d : Controller) → w ≡ op_word e c → w ≡ op_word f d → c ≡ d
same_controller w e f c d h k = sym (named-word e c) ∙ ap named (sym h ∙ k) ∙ named-word f d

-- ---- one word more

-- one part is taken, and the others are left
pub one_taken : (ops new : ControlOps) (w : Word) (ws : List Word) (all : ControlOps) → SpellsOpsAfter ops (filter is_filled (w ∷ [])) new → SpellsOpsAfter ops (filter is_filled (w ∷ ws)) all ↔ SpellsOpsAfter new (filter is_filled ws) all
one_taken ops new [] ws all h = (
  (λ k. subst (λ o. SpellsOpsAfter o (filter is_filled ws) all) (sym h) k),
  (λ k. subst (λ o. SpellsOpsAfter o (filter is_filled ws) all) h k),
)
one_taken ops new (b ∷ bs) ws all h = (
  (λ k. subst (λ o. SpellsOpsAfter o (filter is_filled ws) all)
      ((λ i. with_op (same_sign (b ∷ bs) k.0 h.0 k.1 h.1 k.2 h.2 i) (same_controller (b ∷ bs) k.0 h.0 k.1 h.1 k.2 h.2 i) ops) ∙ sym h.3) k.3),
  (λ k. (h.0, h.1, h.2, subst (λ o. SpellsOpsAfter o (filter is_filled ws) all) h.3 k)),
)

-- the words spell one row of operations at most
pub one_result : (ws : List Word) (ops x y : ControlOps) → SpellsOpsAfter ops ws x → SpellsOpsAfter ops ws y → x ≡ y
one_result [] ops x y h k = h ∙ sym k
one_result (w ∷ ws) ops x y h k =
    one_result ws (with_op h.0 h.1 ops) x y h.3 (subst (λ o. SpellsOpsAfter o ws y) (λ i. with_op (same_sign w k.0 h.0 k.1 h.1 k.2 h.2 i) (same_controller w k.0 h.0 k.1 h.1 k.2 h.2 i) ops) k.3)

-- ---- the loop over the parts

-- what is left at a turn is its part and what is left then
pub next_left : {X : Type 0} (all : List X) (k : ℕ) (x : X) → k < length all → x ≡ get_or all k x → drop k all ≡ x ∷ drop (k + 1) all
next_left all k x l e = drop-cons all k x l ∙ ap (λ y. y ∷ drop (suc k) all) (sym e) ∙ ap (λ n. x ∷ drop n all) (sym (add-one k))

pub next_round : (A : Type 0) (ops new : ControlOps) (w : Word) (left rest : List Word) (all : ControlOps) → left ≡ w ∷ rest → SpellsOpsAfter ops (filter is_filled (w ∷ [])) new → A ↔ SpellsOpsAfter ops (filter is_filled left) all → A ↔ SpellsOpsAfter new (filter is_filled rest) all
next_round A ops new w left rest all e h k =
    let step = one_taken ops new w rest all h in
    ((λ a. step.0 (subst (λ ws. SpellsOpsAfter ops (filter is_filled ws) all) e (k.0 a))), (λ b. k.1 (subst (λ ws. SpellsOpsAfter ops (filter is_filled ws) all) (sym e) (step.1 b))))

pub no_round : (A : Type 0) (ops : ControlOps) (w : Word) (left rest : List Word) (all : ControlOps) → left ≡ w ∷ rest → ((ws : List Word) (t : ControlOps) → SpellsOpsAfter ops (filter is_filled (w ∷ ws)) t → ⊥) → A ↔ SpellsOpsAfter ops (filter is_filled left) all → A → ⊥
no_round A ops w left rest all e h k a = h rest all (subst (λ ws. SpellsOpsAfter ops (filter is_filled ws) all) e (k.0 a))

pub all_taken : (A : Type 0) (ops : ControlOps) (left : List Word) → left ≡ [] → A ↔ SpellsOpsAfter ops (filter is_filled left) ops → A
all_taken A ops left e k = k.1 (subst (λ ws. SpellsOpsAfter ops (filter is_filled ws) ops) (sym e) refl)

-- what a turn, and the end, of a `for` tell of the list that it goes over; the list stands last, where its steps are known
pub turn_on : {S A B : Type 0} {steps : S → Option A → S → Type 0} {v : A → B} {s : S} {all : List B} (xs : List A) (t : S) → Yields steps s xs t → (r : Option A) (u : S) (x : A) → r ≡ Some x → steps t r u → YieldsList steps v s all → (length xs < length all) × (v x ≡ get_or all (length xs) (v x))
turn_on xs t y r u x is p road = YieldsList-turn road xs t y r u x is p

pub end_on : {S A B : Type 0} {steps : S → Option A → S → Type 0} {v : A → B} {s : S} {all : List B} (xs : List A) (t : S) → Yields steps s xs t → (r : Option A) (u : S) → r ≡ None → steps t r u → YieldsList steps v s all → (map v xs ≡ all) × (length xs ≡ length all)
end_on xs t y r u is p road = YieldsList-end road xs t y r u is p

-- ---- names are texts

pub name_is_text : (c : Controller) → IsUtf8 (controller_word c)
unfolding lib.Utf8.encode
name_is_text Cpuset = (controller_word Cpuset, (refl, refl))
name_is_text Cpu = (controller_word Cpu, (refl, refl))
name_is_text Io = (controller_word Io, (refl, refl))
name_is_text Memory = (controller_word Memory, (refl, refl))
name_is_text Hugetlb = (controller_word Hugetlb, (refl, refl))
name_is_text Pids = (controller_word Pids, (refl, refl))
name_is_text Rdma = (controller_word Rdma, (refl, refl))
name_is_text Misc = (controller_word Misc, (refl, refl))
