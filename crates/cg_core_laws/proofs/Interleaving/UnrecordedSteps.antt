-- Going back to a savepoint that is there is answered with what went, and a step that isn't recorded leaves the machine.
use Rattle.std.proofs.Common.{◌≡◌, ℕ, ◌+◌, ◌||◌, Bool, true, false, cond, List, [], ◌∷◌, Option, Some, None, refl, ap}
use Rattle.std.proofs.lemmas.Bool.{cond_both}
use Rattle.cg_name.specs.Name.{Name, same_name}
use Rattle.cg_name.specs.declared.refusal.Refusal.TheVariants.{NoSavepoint}
use Rattle.cg_model.specs.System.{System, Attempt, Refuse, Accept}
use Rattle.cg_model.specs.History.{Request, Begin, Do, Save, Back, Undo, Commit, Abort, Answer, WentBack, Refused, is_recorded}
use Rattle.cg_model.specs.Opens.{transaction_in}
use Rattle.cg_model.specs.Reply.{has_savepoint, commands_above}
use Rattle.cg_model.specs.Machine.{StackEntry, Did, Savepoint, stack_has_savepoint}
use Rattle.cg_core_laws.proofs.Interleaving.RunsOfStackEntries.{only}
use Rattle.cg_core_laws.proofs.Interleaving.LogMachine.{Log, log_holder, pop, log_back_to, try_do, do_at, undo_at, others, is_full_log, log_step_in, log_step_out, log_step_at, log_noted, log_step}
use Rattle.cg_core_laws.proofs.Interleaving.StepsWithoutTransaction.{of_out}
use Rattle.cg_core_laws.proofs.Interleaving.HistoryTie.{as_items}

module _ (y : System) where
  pub savepoint_is : (n : Name) (l : List (StackEntry y)) → stack_has_savepoint n l ≡ has_savepoint n (as_items l)
  savepoint_is n [] = refl
  savepoint_is n (Did t h c a d f ∷ l) = savepoint_is n l
  savepoint_is n (Savepoint t h m ∷ l) = ap (λ b. same_name m n || b) (savepoint_is n l)

  back_cond : (b m : Bool) (k j : ℕ) (c : Log y) (p : Log y × Answer) → (b || m) ≡ true → (m ≡ true → p.1 ≡ WentBack j) → (cond b (c, WentBack k) p).1 ≡ WentBack (cond b k j)
  back_cond true m k j c p e i = refl
  back_cond false m k j c p e i = i e

  pub back_answer : (t : ℕ) (n : Name) (l : List (StackEntry y)) (c : Log y) (k : ℕ) → stack_has_savepoint n l ≡ true → (log_back_to y t n l c k).1 ≡ WentBack (commands_above n k (as_items l))
  back_answer t n [] c k e = absurd (cc e)
  back_answer t n (Did u h b a d f ∷ l) c k e = back_answer t n l (pop y c t (Did u h b a d f)) (k + 1) e
  back_answer t n (Savepoint u h m ∷ l) c k e =
      back_cond (same_name m n) (stack_has_savepoint n l) k (commands_above n k (as_items l)) _ _ e (back_answer t n l (pop y c t (Savepoint u h m)) k)

  -- where the answer isn't recorded, the machine is as it was
  abbrev Quiet : Request y → Log y → Log y × Answer → Type 0
  Quiet r c p = is_recorded r p.1 ≡ false → p.0 ≡ c

  quiet_try : (c : Log y) (t : ℕ) (b : y.Command) (r : Attempt y.Change) → Quiet (Do b) c (try_do y c t b r)
  quiet_try c t b (Refuse x) e = refl
  quiet_try c t b (Accept a d) e = absurd (cc e)

  quiet_do : (c : Log y) (t : ℕ) (b : y.Command) (h : Option ℕ) → Quiet (Do b) c (do_at y c t b h)
  quiet_do c t b (Some u) e = refl
  quiet_do c t b None e = quiet_try c t b (y.effect b c.tree) e

  quiet_undo : (c : Log y) (t : ℕ) (l : List (StackEntry y)) → Quiet Undo c (undo_at y c t l)
  quiet_undo c t [] e = refl
  quiet_undo c t (Savepoint u h n ∷ l) e = refl
  quiet_undo c t (Did u h b a d f ∷ l) e = absurd (cc e)

  quiet_back : (c : Log y) (t : ℕ) (n : Name) (b : Bool) → stack_has_savepoint n (only t c.log) ≡ b → Quiet (Back n) c (cond b (log_back_to y t n (only t c.log) c 0) (c, Refused NoSavepoint))
  quiet_back c t n true h e =
      let a = ap (λ (x : Answer). is_recorded {y = y} (Back n) x) (back_answer t n (only t c.log) c 0 h) in absurd (cc (a, e))
  quiet_back c t n false h e = refl

  quiet_in : (c : Log y) (s t : ℕ) (r : Request y) → Quiet r c (log_step_in y c s t r)
  quiet_in c s t Begin e = refl
  quiet_in c s t (Do b) e = cond_both (is_full_log c) _ _ (Quiet (Do b) c) (λ _ i. refl) (λ _. quiet_do c t b (log_holder y (y.footprint b c.tree) c.log (others y c t))) e
  quiet_in c s t (Save n) e =
      cond_both (stack_has_savepoint n (only t c.log)) _ _ (Quiet (Save n) c) (λ _ i. refl)
      (λ _. cond_both (is_full_log c) _ _ (Quiet (Save n) c) (λ _ i. refl) (λ _ i. absurd (cc i))) e
  quiet_in c s t (Back n) e = quiet_back c t n (stack_has_savepoint n (only t c.log)) refl e
  quiet_in c s t Undo e = quiet_undo c t (only t c.log) e
  quiet_in c s t Commit e = absurd (cc e)
  quiet_in c s t Abort e = absurd (cc e)

  quiet_out : (c : Log y) (s : ℕ) (r : Request y) → Quiet r c (log_step_out y c s r)
  quiet_out c s r = of_out y (λ q p. Quiet q c p) c s (λ _ _ _ _. refl) (λ _ e. absurd (cc e)) r

  pub quiet_at : (c : Log y) (s : ℕ) (r : Request y) (h : Option ℕ) → Quiet r c (log_step_at y c s r h)
  quiet_at c s r (Some t) e = quiet_in c s t r e
  quiet_at c s r None e = quiet_out c s r e

  quiet_noted : (c : Log y) (s : ℕ) (r : Request y) (h : Option ℕ) (p : Log y × Answer) (b : Bool) → is_recorded r p.1 ≡ b → Quiet r c p → Quiet r c (log_noted b s r h p)
  quiet_noted c s r h p true k q e = absurd (cc (k, e))
  quiet_noted c s r h p false k q e = q e

  pub quiet_step : (c : Log y) (s : ℕ) (r : Request y) → Quiet r c (log_step y c s r)
  quiet_step c s r =
      let p = log_step_at y c s r (transaction_in s c.opens) in
      quiet_noted c s r (transaction_in s c.opens) p (is_recorded r p.1) refl (quiet_at c s r (transaction_in s c.opens))
