-- What holds of a refusal, and of a Begin that isn't refused, holds of each step of a session without an open transaction.
use Rattle.std.proofs.Common.{◌≡◌, ℕ, false, ◌+◌, ◌∷◌, refl}
use Rattle.std.proofs.lemmas.Bool.{cond_both}
use Rattle.cg_name.specs.declared.refusal.Refusal.{Refusal}
use Rattle.cg_name.specs.declared.refusal.Refusal.TheVariants.{NoTransaction, Full}
use Rattle.cg_model.specs.System.{System}
use Rattle.cg_model.specs.History.{Request, Begin, Do, Save, Back, Undo, Commit, Abort, Answer, Begun, Refused, is_recorded}
use Rattle.cg_core_laws.proofs.Interleaving.LogMachine.{Log, is_full_log, log_step_out}

-- with one more transaction, of session s
abbrev pub with_begun : (y : System) → Log y → ℕ → Log y
with_begun y c s = record c { opens = (s, c.begun + 1) ∷ c.opens; begun = c.begun + 1 }

module _ (y : System) (P : Request y → Log y × Answer → Type 0) (c : Log y) (s : ℕ) where
  pub of_out : ((r : Request y) (x : Refusal) → is_recorded r (Refused x) ≡ false → P r (c, Refused x))
      → (is_full_log c ≡ false → P Begin (with_begun y c s, Begun (c.begun + 1)))
      → (r : Request y) → P r (log_step_out y c s r)
  of_out refused begun Begin = cond_both (is_full_log c) (c, Refused Full) (with_begun y c s, Begun (c.begun + 1)) (P Begin) (λ _. refused Begin Full refl) begun
  of_out refused begun (Do b) = refused (Do b) NoTransaction refl
  of_out refused begun (Save n) = refused (Save n) NoTransaction refl
  of_out refused begun (Back n) = refused (Back n) NoTransaction refl
  of_out refused begun Undo = refused Undo NoTransaction refl
  of_out refused begun Commit = refused Commit NoTransaction refl
  of_out refused begun Abort = refused Abort NoTransaction refl
