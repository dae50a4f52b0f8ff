-- The text of a set, run by run.
use Rattle.std.proofs.Common.{◌≡◌, ℕ, ◌<◌, Bool, true, false, IsTrue, List, [], ◌∷◌, ◌++◌, map, refl, ap, ◌∙◌}
use Rattle.std.specs.List.{join_with_byte}
use Rattle.cg_maps.specs.FiniteSet.{FiniteSet, has, members}
use Rattle.cg_cpus.specs.CpuList.{runs, run_text, cpus_text}
use Rattle.cg_cpus.specs.Ascending.{runs_from, text_behind}
use Rattle.cg_cpus.specs.Separated.{separated}
use Rattle.cg_cpus.proofs.Members.{runs_from_first}

append_none : (xs : List ℕ) → xs ≡ xs ++ []
append_none [] = refl
append_none (x ∷ xs) = ap (λ ys. x ∷ ys) (append_none xs)

-- the first run and the others
pub text_step : (behind : Bool) (r : ℕ × ℕ) (rs : List (ℕ × ℕ)) → text_behind behind (r ∷ rs) ≡ separated 44 behind (run_text r) ++ text_behind true rs
text_step behind r [] = append_none (separated 44 behind (run_text r))
text_step true r (q ∷ rs) = refl
text_step false r (q ∷ rs) = refl

whole_text : (rs : List (ℕ × ℕ)) → text_behind false rs ≡ join_with_byte 44 (map run_text rs)
whole_text [] = refl
whole_text (r ∷ rs) = refl

pub text_first : (s : FiniteSet) → ((n : ℕ) → IsTrue (has s n) → n < 1024) → text_behind false (runs_from s 0) ≡ cpus_text s
text_first s below = ap (text_behind false) (runs_from_first s below) ∙ whole_text (runs (members s))
