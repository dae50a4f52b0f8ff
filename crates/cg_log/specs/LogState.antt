-- The log of a session while a transaction of it is open.
use Rattle.std.specs.Prelude.{ℕ, List}
use Rattle.cg_log.specs.declared.call.Call.{Call}

-- its calls, the oldest first; for how many more room is reserved; and how many it has room for in all
pub record LogState : Type 0 where
  pub calls : List Call
  pub reserved : ℕ
  pub capacity : ℕ
