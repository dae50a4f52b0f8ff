-- The answer by which a transaction commits.
use Rattle.std.specs.Prelude.{Bool, true, false}
use Rattle.cg_model.specs.History.{Answer, Committed}

abbrev pub is_commit : Answer → Bool
is_commit (Committed k) = true
is_commit _ = false
