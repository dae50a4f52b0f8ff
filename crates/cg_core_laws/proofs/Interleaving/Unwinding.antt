-- Open transactions unwind as the history has them: what their stacks hold is taken off the newest first, and every inverse
-- fits when its turn comes.
use Rattle.std.proofs.Common.{◌≡◌, ℕ, Bool, true, false, cond, List, [], ◌∷◌, ◌==◌, refl, sym, ap, ◌∙◌, subst}
use Rattle.std.specs.List.{AllByRecursion}
use Rattle.std.proofs.lemmas.Bool.{eqb-true}
use Rattle.std.specs.Cmp.{nat_eq_equiv}
use Rattle.cg_model.specs.System.{System}
use Rattle.cg_model.specs.Opens.{numbers, among}
use Rattle.cg_model.specs.Live.{Items, live}
use Rattle.cg_model.specs.Machine.{StackEntry, Did, Savepoint}
use Rattle.cg_core_laws.specs.Unwind.{with_items, TakenOff, Unwinds}
use Rattle.cg_core_laws.specs.Serial.{AreOpen}
use Rattle.cg_core_laws.proofs.Interleaving.SystemLaws.{SystemLaws}
use Rattle.cg_core_laws.proofs.Interleaving.RunsOfStackEntries.{only, cut}
use Rattle.cg_core_laws.proofs.Interleaving.LogMachine.{Log, pop}
use Rattle.cg_core_laws.proofs.Interleaving.TakingOff.{cut_keep, cut_own}
use Rattle.cg_core_laws.proofs.Interleaving.LogInvariant.{Kept}
use Rattle.cg_core_laws.proofs.Interleaving.LogIsSerial.{LogTakenOff, LogUnwinds, unwinding}
use Rattle.cg_core_laws.proofs.Interleaving.HistoryTie.{as_items, StackEntriesTrue, Tied, entries_true_cut, entries_true_only}

module _ (y : System) (o : y.State) where
  -- these stacks are those of the log
  abbrev Are : (ℕ → Items y) → List (StackEntry y) → Type 0
  Are stacks log = (u : ℕ) → stacks u ≡ as_items (only u log)

  are_step : (t : ℕ) (x : StackEntry y) (l : List (StackEntry y)) (log : List (StackEntry y)) (stacks : ℕ → Items y) (u : ℕ) (b : Bool) → (u == t) ≡ b → only t log ≡ x ∷ l → Are stacks log → cond b (as_items l) (stacks u) ≡ as_items (only u (cut t log))
  are_step t x l log stacks u true k e are = sym (ap (λ v. as_items (only v (cut t log))) (eqb-true u t k) ∙ ap as_items (cut_own y t x log l e))
  are_step t x l log stacks u false k e are = are u ∙ ap as_items (sym (cut_keep y t (λ v. v == u) log (nat_eq_equiv.symm t u ∙ k)))

  are_cut : (t : ℕ) (x : StackEntry y) (l : List (StackEntry y)) (log : List (StackEntry y)) (stacks : ℕ → Items y) → only t log ≡ x ∷ l → Are stacks log → Are (with_items t (as_items l) stacks) (cut t log)
  are_cut t x l log stacks e are u = are_step t x l log stacks u (u == t) refl e are

  taken_off : (t : ℕ) (ts : List ℕ) (l : List (StackEntry y)) (c : Log y) (stacks : ℕ → Items y) → only t c.log ≡ l → Are stacks c.log → StackEntriesTrue y o c.log → ((c' : Log y) (stacks' : ℕ → Items y) → Are stacks' c'.log → StackEntriesTrue y o c'.log → LogUnwinds y c' ts → Unwinds y o stacks' c'.tree ts) → LogTakenOff y c t l (λ c'. LogUnwinds y c' ts) → TakenOff y o stacks c.tree t (as_items l) (λ stacks' s. Unwinds y o stacks' s ts)
  taken_off t ts [] c stacks e are entries_true next w = next c stacks are entries_true w
  taken_off t ts (Did u h b a d f ∷ l) c stacks e are entries_true next w =
      let x : StackEntry y = Did u h b a d f in
      let own : StackEntriesTrue y o (x ∷ l) = subst (StackEntriesTrue y o) e (entries_true_only y o t c.log entries_true) in
      (d, own.1, w.0, next (pop y c t x) (with_items t (as_items l) stacks) (are_cut t x l c.log stacks e are) (entries_true_cut y o t c.log entries_true) w.1)
  taken_off t ts (Savepoint u h n ∷ l) c stacks e are entries_true next w =
      let x : StackEntry y = Savepoint u h n in
      next (pop y c t x) (with_items t (as_items l) stacks) (are_cut t x l c.log stacks e are) (entries_true_cut y o t c.log entries_true) w.1

  unwinds_as : (ts : List ℕ) (c : Log y) (stacks : ℕ → Items y) → Are stacks c.log → StackEntriesTrue y o c.log → LogUnwinds y c ts → Unwinds y o stacks c.tree ts
  unwinds_as [] c stacks are entries_true w = w
  unwinds_as (t ∷ ts) c stacks are entries_true w = (
    w.0,
    subst (λ l. TakenOff y o stacks c.tree t l (λ stacks' s. Unwinds y o stacks' s ts)) (sym (are t))
        (taken_off t ts (only t c.log) c stacks refl are entries_true (λ c' stacks' i m v. unwinds_as ts c' stacks' i m v) w.1),
  )

module _ (y : System) (laws : SystemLaws y) (o : y.State) (sound : y.Sound o) where
  pub unwinds : (c : Log y) (ts : List ℕ) → Kept y o c → Tied y o c → AreOpen ts c.history → Unwinds y o (λ t. live t c.history) c.tree ts
  unwinds c ts k d are_open =
      let are = subst (λ ps. AllByRecursion (λ t. among t (numbers ps) ≡ true) ts) (sym d.opens) are_open in
      unwinds_as y o ts c (λ t. live t c.history) (λ u. sym (d.lives u)) d.entries_true (unwinding y laws o sound ts c are k)
