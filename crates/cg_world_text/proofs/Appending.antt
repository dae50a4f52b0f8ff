-- Texts that grow, piece by piece.
use Rattle.std.proofs.Common.{◌≡◌, ℕ, true, false, not, List, [], ◌∷◌, ◌++◌, map, refl, sym, ap, subst, ◌∙◌, true≢false}
use Rattle.std.specs.List.{flat_map, join_with_byte}
use Rattle.cg_maps.specs.FiniteMap.{is_nonempty}
use Rattle.cg_name.specs.Controller.{controller_word}
use Rattle.cg_name.specs.declared.controller.Controller.{Controller}
use Rattle.cg_name.specs.declared.controller.Controller.TheVariants.{Cpuset, Cpu, Io, Memory, Hugetlb, Pids, Rdma, Misc}
use Rattle.cg_text.specs.Controllers.{members, no_controllers}
use Rattle.cg_text.specs.FileText.{names_text}
use Rattle.cg_text.specs.declared.controllers.Controllers.{Controllers}
use Rattle.cg_text.proofs.Sets.{some_member, tells_none}
use Rattle.cg_world_text.specs.World.{control_text, text_or_minus}

pub append_none : {A : Type 0} (xs : List A) → xs ++ [] ≡ xs
append_none [] = refl
append_none (x ∷ xs) = ap (λ ys. x ∷ ys) (append_none xs)

-- ---- the names of controllers

abbrev pub spaced : List Controller → List ℕ
spaced cs = flat_map (λ c. 32 ∷ controller_word c) cs

-- a space before each is one before the first and one between each two
pub spaced_some : (cs : List Controller) → is_nonempty cs ≡ true → 32 ∷ join_with_byte 32 (map controller_word cs) ≡ spaced cs
spaced_some [] e = absurd (true≢false (sym e))
spaced_some (c ∷ []) e = sym (append_none (32 ∷ controller_word c))
spaced_some (c ∷ d ∷ cs) e = ap (λ t. 32 ∷ controller_word c ++ t) (spaced_some (d ∷ cs) refl)

pub spaced_all : (s : Controllers) → (s ≡ no_controllers → ⊥) → 32 ∷ names_text 32 s ≡ spaced (members s)
spaced_all s some = spaced_some (members s) (some_member s ∙ ap not (tells_none s false ((λ e. absurd (true≢false (sym e))), (λ e. absurd (some e)))))

-- the names of all, or a minus for none
pub control_some : (s : Controllers) → is_nonempty (members s) ≡ true → join_with_byte 44 (map controller_word (members s)) ≡ control_text s
control_some s e = whole (members s) e
  where
    filled : (c : Controller) (t : List ℕ) → controller_word c ++ t ≡ text_or_minus (controller_word c ++ t)
    filled Cpuset t = refl
    filled Cpu t = refl
    filled Io t = refl
    filled Memory t = refl
    filled Hugetlb t = refl
    filled Pids t = refl
    filled Rdma t = refl
    filled Misc t = refl

    whole : (cs : List Controller) → is_nonempty cs ≡ true → join_with_byte 44 (map controller_word cs) ≡ text_or_minus (join_with_byte 44 (map controller_word cs))
    whole [] e = absurd (true≢false (sym e))
    whole (c ∷ []) e = subst (λ t. t ≡ text_or_minus t) (append_none (controller_word c)) (filled c [])
    whole (c ∷ d ∷ cs) e = filled c (44 ∷ join_with_byte 44 (map controller_word (d ∷ cs)))

pub control_none : (s : Controllers) → is_nonempty (members s) ≡ false → control_text s ≡ 45 ∷ []
control_none s e = whole (members s) e
  where
    whole : (cs : List Controller) → is_nonempty cs ≡ false → text_or_minus (join_with_byte 44 (map controller_word cs)) ≡ 45 ∷ []
    whole [] e = refl
    whole (c ∷ cs) e = absurd (true≢false e)
