-- Transactions, and the sessions that they borrow.
use Rattle.std.specs.Prelude.{◌≡◌, ℕ, map}
use Rattle.std.specs.Borrow.{MutBor}
use Rattle.cg_log.specs.Call.{SessionState}
use Rattle.cg_log.specs.CallOf.{call_of}
use Rattle.cg_log.specs.LogState.{LogState}
use Rattle.cg_desk.specs.declared.transaction.Transaction as declared

-- a transaction, which holds the log of its session
abbrev pub Transaction : Type 0
Transaction = declared.Transaction LogState

-- its session, as it is: the number behind the borrow, and the log that the transaction holds
abbrev pub session_of : Transaction → SessionState
session_of t = record { number = t.session.now.number; log = map call_of t.log.calls }

-- its number
abbrev pub txn_number : Transaction → ℕ
txn_number t = t.number.0

-- a transaction has the number of the other, and borrows the same session
abbrev pub IsSame : Transaction → Transaction → Type 0
IsSame t u = (u.session.ghost_name ≡ t.session.ghost_name) × (u.number ≡ t.number)

-- the session as a transaction that was spent leaves it
abbrev pub session_left : {Rest : Type 0} → MutBor SessionState × Rest → SessionState
session_left left = left.0.now
