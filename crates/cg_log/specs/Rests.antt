-- What is left of the logs, by sessions, while they are compared with a history.
use Rattle.std.specs.Prelude.{◌≡◌, ℕ, List, length, map, reverse}
use Rattle.std.specs.List.{AllByRecursion, sum_by}
use Rattle.cg_model.specs.Cgroups.{cgroups}
use Rattle.cg_model.specs.History.{History}
use Rattle.cg_log.specs.Call.{Call, SessionState, calls_of}

abbrev pub Rests : Type 0
Rests = List (ℕ × List Call)

-- the whole logs, that of the last session first
abbrev pub rests_of : List SessionState → Rests
rests_of sessions = reverse (map (λ s. (s.number, s.log)) sessions)

-- how many calls are left
abbrev pub total : Rests → ℕ
total rests = sum_by (λ x. length x.1) rests

-- each is the history's calls of its session
abbrev pub AreCallsOf : History cgroups → Rests → Type 0
AreCallsOf h rests = AllByRecursion (λ x. x.1 ≡ calls_of x.0 h) rests
