-- What holds of any system that keeps the laws, after any list of proper requests of any sessions from a sound state,
-- whatever the bound.
use Rattle.std.proofs.Common.{◌≡◌, ℕ, ◌≤◌, List, Some, subst}
use Rattle.cg_model.specs.System.{System}
use Rattle.cg_model.specs.History.{Request}
use Rattle.cg_model.specs.Opens.{transaction_in, opens}
use Rattle.cg_model.specs.Machine.{Machine, opened, steps}
use Rattle.cg_core_laws.specs.Serial.{AreProper, IsSerial, IsFaithful, GoesBack, OthersStay, CommitsStay}
use Rattle.cg_core_laws.specs.Stacks.{IsOfHistory}
use Rattle.cg_core_laws.proofs.Interleaving.SystemLaws.{SystemLaws}
use Rattle.cg_core_laws.proofs.Interleaving.LogMachine.{Log, log_opened, log_steps}
use Rattle.cg_core_laws.proofs.Interleaving.UnchangedBySteps.{bound_steps}
use Rattle.cg_core_laws.proofs.Interleaving.LeastHolder.{falling}
use Rattle.cg_core_laws.proofs.Interleaving.HistoryBound.{IsWithinBound, within_bound}
use Rattle.cg_core_laws.proofs.Interleaving.AfterSteps.{Invariant, invariant}
use Rattle.cg_core_laws.proofs.Interleaving.MachineOfLog.{machine_of}
use Rattle.cg_core_laws.proofs.Interleaving.MachineRunsAsLog.{steps_are}
use Rattle.cg_core_laws.proofs.Interleaving.MachineOfHistory as tied
use Rattle.cg_core_laws.proofs.Interleaving.SerialAndFaithful.{serial_from, faithful_from}
use Rattle.cg_core_laws.proofs.Interleaving.GoingBack.{goes_back, others_stay, commits_stay}

module _ (y : System) (laws : SystemLaws y) (o : y.State) (sound : y.Sound o) (bound : ℕ) (rs : List (ℕ × Request y)) (proper : AreProper rs) where
  -- the machine, and that with a log
  abbrev after : Machine y
  after = steps y (opened y o bound) rs

  abbrev log_after : Log y
  log_after = log_steps y (log_opened y o bound) rs

  -- what the invariant gives of a machine with a log
  pub by_log : (P : Machine y → Type 0) → ((c : Log y) → Invariant y o c → P (machine_of c)) → P after
  by_log P h = subst P (steps_are y laws o bound rs proper) (h log_after (invariant y laws o bound rs proper))

  pub serial : IsSerial y o after
  serial = by_log (IsSerial y o) (serial_from y laws o sound)

  pub faithful : IsFaithful y o after
  faithful =
      let is_within : 2 ≤ log_after.bound → IsWithinBound log_after = λ le. within_bound y laws o bound rs proper (subst (λ n. 2 ≤ n) (bound_steps y rs (log_opened y o bound)) le) in
      subst (IsFaithful y o) (steps_are y laws o bound rs proper) (faithful_from y laws o log_after (invariant y laws o bound rs proper) (falling y o bound rs) is_within)

  pub of_history : IsOfHistory y o after
  of_history = by_log (IsOfHistory y o) (λ c i. tied.of_history y o c i.tied)

  pub going_back : (s t : ℕ) → transaction_in s (opens after.history) ≡ Some t → GoesBack y after s t
  going_back s t e = goes_back y o after faithful s t e

  pub others_untouched : OthersStay y after
  others_untouched = others_stay y o after faithful

  pub commits_kept : CommitsStay y after
  commits_kept = commits_stay y o after faithful
