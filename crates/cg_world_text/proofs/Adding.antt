-- Names of controllers, taken one by one.
use Rattle.std.proofs.Common.{Result, Ok, Err, ◌≡◌, ℕ, ◌+◌, ◌<◌, ◌==◌, ◌↔◌, suc, cond, List, [], ◌∷◌, ◌++◌, length, get_or, take, drop, map, Bor, refl, sym, ap, subst, ◌∙◌, add-one, drop-cons}
use Rattle.std.proofs.Math.Seq.{take-suc}
use Rattle.cg_name.specs.Controller.{controller_word}
use Rattle.cg_name.specs.declared.controller.Controller.{Controller}
use Rattle.cg_name.specs.declared.controller.Controller.TheVariants.{Cpuset, Cpu, Io, Memory, Hugetlb, Pids, Rdma, Misc}
use Rattle.std.specs.Prelude.{codes}
use Rattle.std.specs.List.{slice_split}
use Rattle.std.specs.Result.{OnErr}
use Rattle.cg_text.specs.Controllers.{no_controllers, with_controller}
use Rattle.cg_text.specs.Words.{Word}
use Rattle.cg_text.specs.declared.controllers.Controllers.{Controllers}
use Rattle.cg_world_text.specs.Statement.{AddsControllers}

-- what holds of a refusal
pub at_err : {T E Q : Type 0} (r : Result T E) → Q → OnErr r Q
at_err (Ok x) q = tt
at_err (Err e) q = q

-- a controller is told by its name's length and first letter
abbrev named : Word → Controller
named w =
    cond (length w == 3) Cpu (cond (length w == 2) Io (cond (length w == 7) Hugetlb (cond (length w == 6) (cond (get_or w 0 0 == 99) Cpuset Memory) (cond (get_or w 0 0 == 112) Pids (cond (get_or w 0 0 == 114) Rdma Misc)))))

named-word : (c : Controller) → named (controller_word c) ≡ c
named-word Cpuset = refl
named-word Cpu = refl
named-word Io = refl
named-word Memory = refl
named-word Hugetlb = refl
named-word Pids = refl
named-word Rdma = refl
named-word Misc = refl

pub same_controller : (w : Word) (c d : Controller) → w ≡ controller_word c → w ≡ controller_word d → c ≡ d
same_controller w c d e f = sym (named-word c) ∙ ap named (sym e ∙ f) ∙ named-word d

-- one name is taken, and the others are left
pub one_taken : (s t : Controllers) (w : Word) (ws : List Word) (all : Controllers) → AddsControllers s (w ∷ []) t → AddsControllers s (w ∷ ws) all ↔ AddsControllers t ws all
one_taken s t w ws all h = (
  (λ k. subst (λ u. AddsControllers u ws all) (ap (λ c. with_controller c s) (same_controller w k.0 h.0 k.1 h.1) ∙ sym h.3) k.3),
  (λ k. (h.0, h.1, h.2, subst (λ u. AddsControllers u ws all) h.3 k)),
)

-- the words spell one set at most
pub one_sum : (ws : List Word) (s all other : Controllers) → AddsControllers s ws all → AddsControllers s ws other → all ≡ other
one_sum [] s all other h k = h ∙ sym k
one_sum (w ∷ ws) s all other h k =
    one_sum ws (with_controller h.0 s) all other h.3 (subst (λ c. AddsControllers (with_controller c s) ws other) (same_controller w k.0 h.0 k.1 h.1) k.3)

-- what is left at a turn is its item and what is left then
pub next_left : {X : Type 0} (all : List X) (k : ℕ) (x : X) → k < length all → x ≡ get_or all k x → drop k all ≡ x ∷ drop (k + 1) all
next_left all k x l e = drop-cons all k x l ∙ ap (λ y. y ∷ drop (suc k) all) (sym e) ∙ ap (λ n. x ∷ drop n all) (sym (add-one k))

-- and what was taken before it is one longer
pub next_taken : {X : Type 0} (all : List X) (k : ℕ) (x : X) → k < length all → x ≡ get_or all k x → take (k + 1) all ≡ take k all ++ x ∷ []
next_taken all k x l e = ap (λ n. take n all) (add-one k) ∙ take-suc all k x l ∙ ap (λ y. take k all ++ y ∷ []) (sym e)

-- a name more is taken
pub next_round : (A : Type 0) (s t : Controllers) (w : Word) (left rest : List Word) (all : Controllers) → left ≡ w ∷ rest → AddsControllers s (w ∷ []) t → A ↔ AddsControllers s left all → A ↔ AddsControllers t rest all
next_round A s t w left rest all e h k =
    let step = one_taken s t w rest all h in
    ((λ a. step.0 (subst (λ ws. AddsControllers s ws all) e (k.0 a))), (λ b. k.1 (subst (λ ws. AddsControllers s ws all) (sym e) (step.1 b))))

-- and one can't be
pub no_round : (A : Type 0) (s : Controllers) (w : Word) (left rest : List Word) (all : Controllers) → left ≡ w ∷ rest → ((ws : List Word) (t : Controllers) → AddsControllers s (w ∷ ws) t → ⊥) → A ↔ AddsControllers s left all → A → ⊥
no_round A s w left rest all e h k a = h rest all (subst (λ ws. AddsControllers s ws all) e (k.0 a))

-- no name is left
pub all_taken : (A : Type 0) (s : Controllers) (left : List Word) → left ≡ [] → A ↔ AddsControllers s left s → A
all_taken A s left e k = k.1 (subst (λ ws. AddsControllers s ws s) (sym e) refl)

-- the word at the turn of a loop over a slice, with the default that reading gives past its end
pub next_word : (names : List (Bor (List ℕ))) (k : ℕ) → k < length names → map (λ w. w.now) (drop k names) ≡ (get_or names k (record { ref_ptr = (0, 0); now = [] })).now ∷ map (λ w. w.now) (drop (k + 1) names)
next_word names k l = ap (map (λ w. w.now)) (drop-cons names k (record { ref_ptr = (0, 0); now = [] }) l) ∙ ap (λ n. (get_or names k (record { ref_ptr = (0, 0); now = [] })).now ∷ map (λ w. w.now) (drop n names)) (sym (add-one k))

-- a minus names no controller
pub no_minus : (w : Word) (all : Controllers) → w ≡ codes "-" → AddsControllers no_controllers (slice_split (λ b. b == 44) w) all → ⊥
no_minus w all e h =
    let k = subst (λ v. AddsControllers no_controllers (slice_split (λ b. b == 44) v) all) e h in
    no_word k.0 k.1
  where
    no_word : (c : Controller) → codes "-" ≡ controller_word c → ⊥
    no_word Cpuset e = cc
    no_word Cpu e = cc
    no_word Io e = cc
    no_word Memory e = cc
    no_word Hugetlb e = cc
    no_word Pids e = cc
    no_word Rdma e = cc
    no_word Misc e = cc
