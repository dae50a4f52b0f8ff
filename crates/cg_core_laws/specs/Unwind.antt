-- Unwinding open transactions by their newest items, in any interleaving.
use Rattle.std.specs.Prelude.{◌≡◌, ℕ, ◌==◌, cond, List, [], ◌∷◌}
use Rattle.cg_model.specs.System.{System, Outcome, Accept}
use Rattle.cg_model.specs.Live.{Ran, AtSavepoint, Items}
use Rattle.cg_model.specs.Run.{tree_of}

-- the stacks of transactions, where t's is l
abbrev pub with_items : {y : System} → ℕ → Items y → (ℕ → Items y) → ℕ → Items y
with_items t l stacks u = cond (u == t) l (stacks u)

-- the state is as if the command had been the last: its change fits, and before it the command is accepted again, with the
-- same outcome and change, and leads back to the state
pub record IsLast (y : System) (c : y.Command) (a : Outcome) (d : y.Change) (s : y.State) : Type 0 where
  pub fits : y.Fits d s
  pub again : y.effect c (y.undone d s) ≡ Accept a d
  pub back : y.done d (y.undone d s) ≡ s

-- the newest item of t's stack is taken off, and what is asked of the rest holds then: the change that a command made when
-- it was accepted fits the state, and is undone
abbrev pub TakenOff : (y : System) → y.State → (ℕ → Items y) → y.State → ℕ → Items y → ((ℕ → Items y) → y.State → Type 0) → Type 0
TakenOff y o stacks s t [] Rest = Rest stacks s
TakenOff y o stacks s t (Ran u h c a ∷ l) Rest = (d : y.Change) × (y.effect c (tree_of y o h) ≡ Accept a d) × IsLast y c a d s × Rest (with_items t l stacks) (y.undone d s)
TakenOff y o stacks s t (AtSavepoint u h n ∷ l) Rest = Rest (with_items t l stacks) s

-- the transactions of a list are unwound in this order, each time by the newest item: every state is sound, and every
-- inverse fits when its turn comes
abbrev pub Unwinds : (y : System) → y.State → (ℕ → Items y) → y.State → List ℕ → Type 0
Unwinds y o stacks s [] = y.Sound s
Unwinds y o stacks s (t ∷ ts) = y.Sound s × TakenOff y o stacks s t (stacks t) (λ stacks' s'. Unwinds y o stacks' s' ts)
