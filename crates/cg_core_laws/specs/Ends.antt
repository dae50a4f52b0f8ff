-- The end of a schedule: what is still open is aborted.
use Rattle.std.specs.Prelude.{◌≡◌, ℕ, ◌<◌, List, [], ◌∷◌, map, reverse}
use Rattle.std.specs.List.{AllByRecursion}
use Rattle.cg_model.specs.System.{System}
use Rattle.cg_model.specs.History.{Aborted}
use Rattle.cg_model.specs.Opens.{numbers, opens}
use Rattle.cg_model.specs.Live.{committed}
use Rattle.cg_model.specs.Run.{run_items}
use Rattle.cg_model.specs.Machine.{Machine}
use Rattle.cg_model.specs.Output.{answers, aborts}

-- each number is greater than those after it
abbrev pub GoDown : List ℕ → Type 0
GoDown [] = Unit {0}
GoDown (n ∷ ns) = AllByRecursion (λ m. m < n) ns × GoDown ns

-- the aborts of all that is open
pub record EndsAll (y : System) (o : y.State) (m : Machine y) : Type 0 where
  -- the newest transaction has the greatest number, so that the aborts go by number
  pub numbered : GoDown (numbers (opens m.history))
  -- each is accepted, in its own transaction
  pub accepted : (answers y m (aborts m)).0 ≡ map (λ p. Aborted p.1) (reverse (opens m.history))
  -- after them nothing is open, and the tree is what the committed work alone gives
  pub closed : opens (answers y m (aborts m)).1.history ≡ []
  pub tree : (answers y m (aborts m)).1.tree ≡ run_items y o (committed m.history)
