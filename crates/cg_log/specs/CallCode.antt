-- A session is data: the code by which a proof tells sessions apart.
use Rattle.std.specs.Prelude.{ℕ, List, [], ◌∷◌, refl}
use Rattle.std.specs.Coded.{Coded, code_by, coded×, coded_ℕ, coded_list}
use Rattle.cg_model.specs.Cgroups.{cgroups}
use Rattle.cg_model.specs.History.{Begin, Saved, History}
use Rattle.cg_history.specs.Code.{history_code}
use Rattle.cg_log.specs.Call.{Call, SessionState, call_in}

-- a call as a history of one record, and back
abbrev from_call : Call → History cgroups
from_call c = record { session = 0; transaction = 0; request = c.request; answer = c.answer } ∷ []

abbrev to_call : History cgroups → Call
to_call [] = record { request = Begin; answer = Saved }
to_call (r ∷ h) = call_in r

abbrev call_code : Coded Call
call_code = code_by (History cgroups) history_code from_call to_call (λ _. refl)

abbrev pub calls_code : Coded (List Call)
calls_code = coded_list call_code

abbrev pub session_code : Coded SessionState
session_code =
    code_by (ℕ × List Call) (coded× coded_ℕ calls_code) (λ s. (s.number, s.log)) (λ p. record { number = p.0; log = p.1 }) (λ _. refl)
