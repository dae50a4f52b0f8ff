-- The members of a set of CPU numbers from a number on.
use Rattle.std.specs.Prelude.{ℕ, zero, suc, ◌+◌, ◌-◌, Bool, cond, List, [], ◌∷◌, map}
use Rattle.std.specs.List.{join_with_byte}
use Rattle.cg_maps.specs.FiniteSet.{FiniteSet, has}
use Rattle.cg_cpus.specs.CpuList.{runs, run_text}
use Rattle.cg_cpus.specs.Separated.{separated}

-- of the d numbers from k on, those that pass a test
unfoldable pub passing : ℕ → ℕ → (ℕ → Bool) → List ℕ
passing k zero p = []
passing k (suc d) p = cond (p k) (k ∷ passing (k + 1) d p) (passing (k + 1) d p)

-- the runs of the members from k on
unfoldable pub runs_from : FiniteSet → ℕ → List (ℕ × ℕ)
runs_from s k = runs (passing k (1024 - k) (has s))

-- the text of runs, behind others or as the whole list
abbrev pub text_behind : Bool → List (ℕ × ℕ) → List ℕ
text_behind behind [] = []
text_behind behind (r ∷ rs) = separated 44 behind (join_with_byte 44 (map run_text (r ∷ rs)))
