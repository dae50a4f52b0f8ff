-- An abort gives back the tree of its begin, where no other session changed it in between.
use Rattle.std.specs.Prelude.{◌≡◌, ◌⊎◌, ℕ, List, [], ◌∷◌}
use Rattle.cg_model.specs.System.{System}
use Rattle.cg_model.specs.Cgroups.{cgroups}
use Rattle.cg_model.specs.History.{Request, Begin, Abort, Begun, Aborted}
use Rattle.cg_model.specs.Machine.{Machine, step, steps}
use Rattle.cg_core_laws.specs.Laws.{AfterAnySteps}

-- in these steps of any sessions no other session than s changes the tree
abbrev pub OnlyChanges : (y : System) → ℕ → Machine y → List (ℕ × Request y) → Type 0
OnlyChanges y s m [] = Unit {0}
OnlyChanges y s m (p ∷ ps) = ((p.0 ≡ s) ⊎ ((step y m p.0 p.1).0.tree ≡ m.tree)) × OnlyChanges y s (step y m p.0 p.1).0 ps

-- s begins the transaction t, and at last aborts it: the tree is the one before that begin
abbrev pub AbortsRestore : (y : System) → Machine y → Type 0
AbortsRestore y m = (s t : ℕ) (between : List (ℕ × Request y)) → (step y m s Begin).1 ≡ Begun t → OnlyChanges y s (step y m s Begin).0 between
    → let last = steps y (step y m s Begin).0 between in
    (step y last s Abort).1 ≡ Aborted t → (step y last s Abort).0.tree ≡ m.tree

-- so it is of any session at any time
abbrev pub AbortsRestoreTrees : Type 0
AbortsRestoreTrees = AfterAnySteps (λ opening m. AbortsRestore cgroups m)
