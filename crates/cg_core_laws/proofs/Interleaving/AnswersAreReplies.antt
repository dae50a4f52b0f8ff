-- Each step answers as the history says.
use Rattle.std.proofs.Common.{◌≡◌, ℕ, ◌+◌, ◌-◌, ◌||◌, Bool, true, false, cond, List, [], ◌∷◌, ◌++◌, length, Option, Some, None, refl, sym, ap, ◌∙◌}
use Rattle.std.specs.Prelude.{nat_lt}
use Rattle.cg_name.specs.declared.refusal.Refusal.TheVariants.{Full, NoSavepoint, NameTaken}
use Rattle.cg_model.specs.System.{System}
use Rattle.cg_model.specs.History.{Request, Begin, Do, Save, Back, Undo, Commit, Abort, Answer, Saved, WentBack, Committed, Refused}
use Rattle.cg_model.specs.Opens.{Opens, numbers, among, without, transaction_in, opens}
use Rattle.cg_model.specs.Live.{live, committed}
use Rattle.cg_model.specs.Run.{run_items, tree_of, own_tree}
use Rattle.cg_model.specs.Reply.{clashes_with, holder, has_savepoint, commands_above, live_count, is_full, undo_reply, command_reply, reply_in, reply_out, reply_at, reply}
use Rattle.cg_model.specs.Machine.{StackEntry, Did, Savepoint, hits, stack_has_savepoint}
use Rattle.cg_core_laws.proofs.Interleaving.SystemLaws.{SystemLaws}
use Rattle.cg_core_laws.proofs.Interleaving.RunsOfStackEntries.{only}
use Rattle.cg_core_laws.proofs.Interleaving.LogMachine.{Log, log_holder, log_back_to, undo_at, others, held, is_full_log, log_step_in, log_step_out, log_step_at, log_step}
use Rattle.cg_core_laws.proofs.Interleaving.OpenTransactions.{transaction_open}
use Rattle.cg_core_laws.proofs.Interleaving.LogInvariant.{Kept}
use Rattle.cg_core_laws.proofs.Interleaving.LogIsSerial.{own_state, own_runs, do_answer, note_answer}
use Rattle.cg_core_laws.proofs.Interleaving.HistoryTie.{as_items, StackEntriesTrue, Tied, as_items_append, length_as_items, entries_true_only, ran}
use Rattle.cg_core_laws.proofs.Interleaving.UnrecordedSteps.{savepoint_is, back_answer}

module _ (y : System) where
  cond_answer : (b : Bool) (p q : Log y × Answer) → (cond b p q).1 ≡ cond b p.1 q.1
  cond_answer true p q = refl
  cond_answer false p q = refl

  undo_answer : (c : Log y) (t : ℕ) (l : List (StackEntry y)) → (undo_at y c t l).1 ≡ undo_reply (as_items l)
  undo_answer c t [] = refl
  undo_answer c t (Savepoint u h n ∷ l) = refl
  undo_answer c t (Did u h b a d f ∷ l) = refl

module _ (y : System) (laws : SystemLaws y) (o : y.State) where
  hits_are : (f : y.Footprint) (l : List (StackEntry y)) → StackEntriesTrue y o l → hits y f l ≡ clashes_with y o f (as_items l)
  hits_are f [] m = refl
  hits_are f (Did t h c a d g ∷ l) m = rw m.0 (ap (λ b. y.clashes (y.footprint c (tree_of y o h)) f || b) (hits_are f l m.2))
  hits_are f (Savepoint t h n ∷ l) m = hits_are f l m

  holder_is : (c : Log y) (f : y.Footprint) (ts : List ℕ) → Tied y o c → log_holder y f c.log ts ≡ holder y o f c.history ts
  holder_is c f [] k = refl
  holder_is c f (u ∷ ts) k =
      let e : hits y f (only u c.log) ≡ clashes_with y o f (live u c.history) = hits_are f (only u c.log) (entries_true_only y o u c.log k.entries_true) ∙ ap (clashes_with y o f) (k.lives u) in
      rw (e, holder_is c f ts k)

  -- the tree is that of the history
  pub tree_is : (c : Log y) → Kept y o c → Tied y o c → c.tree ≡ tree_of y o c.history
  tree_is c k t = k.tree ∙ sym (ran y o c.log k.runs).0 ∙ ap (run_items y o) t.stands

  -- what t did above what was committed, as the history has it
  pub own_as_items : (c : Log y) (t : ℕ) → Tied y o c → as_items (only t c.log ++ c.done) ≡ live t c.history ++ committed c.history
  own_as_items c t d = as_items_append y o (only t c.log) c.done ∙ (rw (d.lives t, d.done))

  own_is : (c : Log y) (t : ℕ) → Kept y o c → Tied y o c → among t (numbers c.opens) ≡ true → own_state y o c t ≡ own_tree y o t c.history
  own_is c t k d m = sym (ran y o (only t c.log ++ c.done) (own_runs y laws o c t k m)).0 ∙ ap (run_items y o) (own_as_items c t d)

  -- as many items as stack entries
  pub held_is : (c : Log y) (ps : Opens) → Tied y o c → held ps c.log ≡ live_count ps c.history
  held_is c [] d = refl
  held_is c (p ∷ ps) d =
      let n : length (only p.1 c.log) ≡ length (live p.1 c.history) = sym (length_as_items y o (only p.1 c.log)) ∙ ap length (d.lives p.1) in
      rw (n, held_is c ps d)

  full_is : (c : Log y) → Tied y o c → is_full_log c ≡ is_full c.bound c.history
  full_is c d =
      ap (λ n. nat_lt (c.bound - 2) (length c.history + (length c.opens + n))) (held_is c c.opens d)
      ∙ ap (λ ps. nat_lt (c.bound - 2) (length c.history + (length ps + live_count ps c.history))) d.opens

  in_answer : (c : Log y) (s t : ℕ) (r : Request y) → Kept y o c → Tied y o c → among t (numbers c.opens) ≡ true → (log_step_in y c s t r).1 ≡ reply_in y o c.bound c.history t r
  in_answer c s t Begin k d m = refl
  in_answer c s t (Do b) k d m =
      let h = c.history in
      let found : log_holder y (y.footprint b c.tree) c.log (others y c t) ≡ holder y o (y.footprint b (tree_of y o h)) h (numbers (without t (opens h))) =
      holder_is c (y.footprint b c.tree) (others y c t) d ∙ ap (λ s. holder y o (y.footprint b s) h (others y c t)) (tree_is c k d) ∙ ap (λ ps. holder y o (y.footprint b (tree_of y o h)) h (numbers (without t ps))) d.opens in
      let e = do_answer y laws o c t b (log_holder y (y.footprint b c.tree) c.log (others y c t)) refl k m
      ∙ ap (λ x. command_reply x (y.effect b (own_state y o c t))) found
      ∙ ap (λ x. command_reply (holder y o (y.footprint b (tree_of y o h)) h (numbers (without t (opens h)))) (y.effect b x)) (own_is c t k d m) in
      cond_answer y (is_full_log c) _ _ ∙ (rw (full_is c d) (ap (cond (is_full c.bound h) (Refused Full)) e))
  in_answer c s t (Save n) k d m =
      cond_answer y (stack_has_savepoint n (only t c.log)) _ _ ∙ ap (cond (stack_has_savepoint n (only t c.log)) (Refused NameTaken)) (cond_answer y (is_full_log c) _ _)
      ∙ (rw (full_is c d) (ap (λ b. cond b (Refused NameTaken) (cond (is_full c.bound c.history) (Refused Full) Saved)) (savepoint_is y n (only t c.log) ∙ ap (has_savepoint n) (d.lives t))))
  in_answer c s t (Back n) k d m = back_cond (stack_has_savepoint n (only t c.log)) refl
    where
      back_cond : (b : Bool) → stack_has_savepoint n (only t c.log) ≡ b → (cond b (log_back_to y t n (only t c.log) c 0) (c, Refused NoSavepoint)).1 ≡ cond (has_savepoint n (live t c.history)) (WentBack (commands_above n 0 (live t c.history))) (Refused NoSavepoint)
      back_cond true e =
          let at : has_savepoint n (live t c.history) ≡ true = sym (savepoint_is y n (only t c.log) ∙ ap (has_savepoint n) (d.lives t)) ∙ e in
          rw at (back_answer y t n (only t c.log) c 0 e ∙ ap (λ l. WentBack (commands_above n 0 l)) (d.lives t))
      back_cond false e =
          let at : has_savepoint n (live t c.history) ≡ false = sym (savepoint_is y n (only t c.log) ∙ ap (has_savepoint n) (d.lives t)) ∙ e in
          rw at
  in_answer c s t Undo k d m = undo_answer y c t (only t c.log) ∙ ap undo_reply (d.lives t)
  in_answer c s t Commit k d m = ap (λ n. Committed (n + 1)) d.commits
  in_answer c s t Abort k d m = refl

  out_answer : (c : Log y) (s : ℕ) (r : Request y) → Tied y o c → (log_step_out y c s r).1 ≡ reply_out y c.bound c.history r
  out_answer c s Begin d = cond_answer y (is_full_log c) _ _ ∙ (rw (full_is c d, d.begun))
  out_answer c s (Do b) d = refl
  out_answer c s (Save n) d = refl
  out_answer c s (Back n) d = refl
  out_answer c s Undo d = refl
  out_answer c s Commit d = refl
  out_answer c s Abort d = refl

  at_answer : (c : Log y) (s : ℕ) (r : Request y) (h : Option ℕ) → transaction_in s c.opens ≡ h → Kept y o c → Tied y o c → (log_step_at y c s r h).1 ≡ reply_at y o c.bound c.history h r
  at_answer c s r (Some t) e k d = in_answer c s t r k d (transaction_open s t c.opens e)
  at_answer c s r None e k d = out_answer c s r d

  -- before the record is made, if one is
  pub answer_at : (c : Log y) (s : ℕ) (r : Request y) → Kept y o c → Tied y o c → (log_step_at y c s r (transaction_in s c.opens)).1 ≡ reply y o c.bound c.history s r
  answer_at c s r k d = at_answer c s r (transaction_in s c.opens) refl k d ∙ ap (λ ps. reply_at y o c.bound c.history (transaction_in s ps) r) d.opens

  pub step_answer : (c : Log y) (s : ℕ) (r : Request y) → Kept y o c → Tied y o c → (log_step y c s r).1 ≡ reply y o c.bound c.history s r
  step_answer c s r k d = note_answer y laws o s r (transaction_in s c.opens) (log_step_at y c s r (transaction_in s c.opens)) ∙ answer_at c s r k d
