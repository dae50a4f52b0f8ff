-- Calls: requests of sessions with their answers, and which of them a history has.
use Rattle.std.specs.Prelude.{ℕ, ◌==◌, cond, List, [], ◌∷◌, ◌++◌}
use Rattle.cg_model.specs.Cgroups.{cgroups}
use Rattle.cg_model.specs.History.{Request, Answer, Record, History, is_recorded}

-- a request, and its answer
pub record Call : Type 0 where
  pub request : Request cgroups
  pub answer : Answer

-- a session's number, and its calls, the oldest first
pub record SessionState : Type 0 where
  pub number : ℕ
  pub log : List Call

-- the call that is recorded
abbrev pub call_in : Record cgroups → Call
call_in r = record { request = r.request; answer = r.answer }

-- the calls of session s in a history, the oldest first
abbrev pub calls_of : ℕ → History cgroups → List Call
calls_of s [] = []
calls_of s (r ∷ h) = cond (s == r.session) (calls_of s h ++ call_in r ∷ []) (calls_of s h)

-- the log after a call, which it has where the answer is one to be recorded
abbrev pub logged : List Call → Request cgroups → Answer → List Call
logged l r a = cond (is_recorded r a) (l ++ record { request = r; answer = a } ∷ []) l

-- the session after a call
abbrev pub after_call : SessionState → Request cgroups → Answer → SessionState
after_call s r a = record s { log = logged s.log r a }
