use Rattle.std.proofs.Common.{◌≡◌}
use Rattle.cg_desk.specs.Transactions.{session_of, IsSame}
use Rattle.cg_runner.proofs.Asking.{AskedFor}
use Rattle.cg_runner.proofs.trying.ask_all.Given as goal

abbrev pub invariant-loop-request : goal.invariant-loop-request
invariant-loop-request g l =
    (l.line ≡ l.request-index)
    × IsSame l.initial.transaction l.transaction
    × AskedFor l.request-index l.requests (session_of l.initial.transaction) (session_of l.transaction)
