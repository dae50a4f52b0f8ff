-- Processes as they are listed by their PIDs.
use Rattle.std.specs.Prelude.{ℕ, List, [], ◌∷◌, IsSome}
use Rattle.std.specs.List.{AllByRecursion}
use Rattle.std.specs.Ordering.{nat_cmp}
use Rattle.cg_maps.specs.FiniteMap.{FiniteMap, get}
use Rattle.cg_name.specs.Path.{Path}
use Rattle.cg_tree.specs.Present.{with_held}

-- the processes with these PIDs, each with its group
abbrev pub placed : FiniteMap nat_cmp Path → List ℕ → List (ℕ × Path)
placed m [] = []
placed m (k ∷ ks) = with_held k (get m k) (placed m ks)

-- each PID is that of a process
abbrev pub AreThere : FiniteMap nat_cmp Path → List ℕ → Type 0
AreThere m ks = AllByRecursion (λ k. IsSome (get m k)) ks
