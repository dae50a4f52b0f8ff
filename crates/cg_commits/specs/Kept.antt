-- What the fields of a history with scripts hold.
use Rattle.std.specs.Prelude.{◌≡◌, ℕ, ◌+◌, ◌≤◌, length, get_or, vec_len}
use Rattle.std.specs.Vec.{vec_capacity}
use Rattle.cg_core_laws.specs.CommittedCommands.{committed_places, commit_of}
use Rattle.cg_commits.specs.Layout.{joined, ends_of}
use Rattle.cg_commits.specs.declared.commit_history.CommitHistory.TheInside.{Inside}

-- the places of the committed scripts, and for each slot in use, each that is reserved, and the spare ones, room for one place more
pub record IsKept (c : Inside) : Type 0 where
  pub places : c.places.items ≡ joined (committed_places c.history.0)
  pub ends : c.ends.items ≡ ends_of (committed_places c.history.0)
  pub numbers : (n : ℕ) → get_or c.numbers.items n 0 ≡ commit_of n c.history.0
  pub places_room : vec_len c.places + (c.history.1 + c.spare) ≤ vec_capacity c.places
  pub ends_room : vec_len c.ends + (c.history.1 + c.spare) ≤ vec_capacity c.ends
  pub size : length c.history.0 + (c.history.1 + c.spare) ≤ vec_len c.numbers
