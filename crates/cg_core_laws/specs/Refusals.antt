-- What a refusal leaves as it is.
use Rattle.std.specs.Prelude.{◌≡◌, ℕ, ◌∷◌}
use Rattle.cg_name.specs.declared.refusal.Refusal.{Refusal}
use Rattle.cg_model.specs.System.{System}
use Rattle.cg_model.specs.Tree.{Tree}
use Rattle.cg_model.specs.Cgroups.{cgroups}
use Rattle.cg_model.specs.History.{Refused, Record, History}
use Rattle.cg_model.specs.Opens.{opens}
use Rattle.cg_model.specs.Live.{live, committed}
use Rattle.cg_model.specs.Reply.{live_footprints}
use Rattle.cg_model.specs.Run.{tree_of}

-- with the record r the history h is of the same tree, transactions, stacks and locks as without it
pub record LeavesAll (y : System) (o : y.State) (h : History y) (r : Record y) : Type 0 where
  pub tree : tree_of y o (r ∷ h) ≡ tree_of y o h
  pub transactions : opens (r ∷ h) ≡ opens h
  pub stacks : (t : ℕ) → live t (r ∷ h) ≡ live t h
  pub locks : (t : ℕ) → live_footprints y o t (r ∷ h) ≡ live_footprints y o t h
  pub scripts : committed (r ∷ h) ≡ committed h

-- so is every history with the record of a refusal
abbrev pub RefusalsLeaveAll : Type 0
RefusalsLeaveAll = (opening : Tree) (h : History cgroups) (r : Record cgroups) (x : Refusal) → r.answer ≡ Refused x → LeavesAll cgroups opening h r
