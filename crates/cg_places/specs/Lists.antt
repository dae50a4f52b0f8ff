-- Lists that are written at one place.
use Rattle.std.specs.Prelude.{◌≡◌, ◌≢◌, ℕ, List, length, Some, slice_get}

-- one item is written, and no other
pub record WritesAt {A : Type 0} (old new : List A) (i : ℕ) (x : A) : Type 0 where
  pub changed : slice_get new i ≡ Some x
  pub others : (j : ℕ) → j ≢ i → slice_get new j ≡ slice_get old j
  pub many : length new ≡ length old
