-- When sessions and a history agree.
use Rattle.std.specs.Prelude.{◌≡◌, ℕ, ◌==◌, nat_le, ◌&&◌, cond, List, [], length}
use Rattle.std.specs.List.{AllByRecursion, count_by, sum_by}
use Rattle.cg_model.specs.Cgroups.{cgroups}
use Rattle.cg_model.specs.History.{History}
use Rattle.cg_model.specs.Opens.{opens}
use Rattle.cg_log.specs.Call.{SessionState, calls_of}

-- the sessions have the numbers from 1 to `handed`, each once
abbrev pub AreNumbered : ℕ → List SessionState → Type 0
AreNumbered handed sessions = (n : ℕ) → count_by (λ s. s.number == n) sessions ≡ cond (nat_le 1 n && nat_le n handed) 1 0

-- these sessions, of which so many were handed out, made the history, and have ended
pub record IsAudited (history : History cgroups) (handed : ℕ) (sessions : List SessionState) : Type 0 where
  pub numbers : AreNumbered handed sessions
  -- each log is the history's calls of its number
  pub logs : AllByRecursion (λ s. s.log ≡ calls_of s.number history) sessions
  -- and the logs have as many calls as the history has records
  pub lengths : sum_by (λ s. length s.log) sessions ≡ length history
  -- no transaction is open
  pub ended : opens history ≡ []
