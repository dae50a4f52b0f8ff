-- What the steps of a transaction leave as it is: all but the tree and the stack entries, until it ends; and the history and
-- the bound always.
use Rattle.std.proofs.Common.{◌≡◌, ℕ, ◌+◌, Bool, true, false, List, [], ◌∷◌, Option, Some, None, refl, ◌∙◌}
use Rattle.std.proofs.lemmas.Bool.{cond_both}
use Rattle.cg_name.specs.Name.{Name, same_name}
use Rattle.cg_model.specs.System.{System, Attempt, Refuse, Accept}
use Rattle.cg_model.specs.History.{Request, Begin, Do, Save, Back, Undo, Commit, Abort, Answer, is_recorded}
use Rattle.cg_model.specs.Opens.{transaction_in}
use Rattle.cg_model.specs.Machine.{StackEntry, Did, Savepoint, stack_has_savepoint}
use Rattle.cg_core_laws.proofs.Interleaving.RunsOfStackEntries.{only}
use Rattle.cg_core_laws.proofs.Interleaving.LogMachine.{Log, log_holder, pop, pop_all, log_back_to, try_do, do_at, undo_at, others, is_full_log, log_step_in, log_step_out, log_step_at, log_noted, log_step, log_steps}
use Rattle.cg_core_laws.proofs.Interleaving.StepsWithoutTransaction.{of_out}

-- all but the tree and the stack entries
pub record Unchanged (y : System) (c c' : Log y) : Type 0 where
  pub opens : c'.opens ≡ c.opens
  pub begun : c'.begun ≡ c.begun
  pub commits : c'.commits ≡ c.commits
  pub done : c'.done ≡ c.done
  pub history : c'.history ≡ c.history
  pub bound : c'.bound ≡ c.bound

module _ (y : System) where
  -- a step leaves all these as they are
  abbrev Leaves : Log y → Log y × Answer → Type 0
  Leaves c p = Unchanged y c p.0

  pub unchanged_refl : (c : Log y) → Unchanged y c c
  unchanged_refl c = record { opens = refl; begun = refl; commits = refl; done = refl; history = refl; bound = refl }

  -- what is unchanged from the machine with other stack entries is unchanged from this one
  pub unchanged_pop : (c c' : Log y) (t : ℕ) (x : StackEntry y) → Unchanged y (pop y c t x) c' → Unchanged y c c'
  unchanged_pop c c' t x u = record { opens = u.opens; begun = u.begun; commits = u.commits; done = u.done; history = u.history; bound = u.bound }

  pub unchanged_all : (t : ℕ) (l : List (StackEntry y)) (c : Log y) → Unchanged y c (pop_all y t l c)
  unchanged_all t [] c = unchanged_refl c
  unchanged_all t (x ∷ l) c = unchanged_pop c _ t x (unchanged_all t l (pop y c t x))

  pub unchanged_back : (t : ℕ) (n : Name) (l : List (StackEntry y)) (c : Log y) (k : ℕ) → Unchanged y c (log_back_to y t n l c k).0
  unchanged_back t n [] c k = unchanged_refl c
  unchanged_back t n (Did u h b a d f ∷ l) c k =
      unchanged_pop c _ t (Did u h b a d f) (unchanged_back t n l (pop y c t (Did u h b a d f)) (k + 1))
  unchanged_back t n (Savepoint u h m ∷ l) c k =
      let x : StackEntry y = Savepoint u h m in
      unchanged_pop c _ t x (cond_both (same_name m n) _ _ (Leaves (pop y c t x)) (λ _. unchanged_refl (pop y c t x)) (λ _. unchanged_back t n l (pop y c t x) k))

  unchanged_try : (c : Log y) (t : ℕ) (b : y.Command) (r : Attempt y.Change) → Unchanged y c (try_do y c t b r).0
  unchanged_try c t b (Refuse x) = unchanged_refl c
  unchanged_try c t b (Accept a d) = record { opens = refl; begun = refl; commits = refl; done = refl; history = refl; bound = refl }

  unchanged_do : (c : Log y) (t : ℕ) (b : y.Command) (h : Option ℕ) → Unchanged y c (do_at y c t b h).0
  unchanged_do c t b (Some u) = unchanged_refl c
  unchanged_do c t b None = unchanged_try c t b (y.effect b c.tree)

  unchanged_undo : (c : Log y) (t : ℕ) (l : List (StackEntry y)) → Unchanged y c (undo_at y c t l).0
  unchanged_undo c t [] = unchanged_refl c
  unchanged_undo c t (Savepoint u h n ∷ l) = unchanged_refl c
  unchanged_undo c t (Did u h b a d f ∷ l) = record { opens = refl; begun = refl; commits = refl; done = refl; history = refl; bound = refl }

  -- the requests that don't end a transaction
  abbrev pub GoesOn : Request y → Type 0
  GoesOn Commit = ⊥
  GoesOn Abort = ⊥
  GoesOn _ = Unit {0}

  pub unchanged_in : (c : Log y) (s t : ℕ) (r : Request y) → GoesOn r → Unchanged y c (log_step_in y c s t r).0
  unchanged_in c s t Begin g = unchanged_refl c
  unchanged_in c s t (Do b) g =
      cond_both (is_full_log c) _ _ (Leaves c) (λ _. unchanged_refl c) (λ _. unchanged_do c t b (log_holder y (y.footprint b c.tree) c.log (others y c t)))
  unchanged_in c s t (Save n) g =
      cond_both (stack_has_savepoint n (only t c.log)) _ _ (Leaves c) (λ _. unchanged_refl c)
      (λ _. cond_both (is_full_log c) _ _ (Leaves c) (λ _. unchanged_refl c) (λ _. record { opens = refl; begun = refl; commits = refl; done = refl; history = refl; bound = refl }))
  unchanged_in c s t (Back n) g = cond_both (stack_has_savepoint n (only t c.log)) _ _ (Leaves c) (λ _. unchanged_back t n (only t c.log) c 0) (λ _. unchanged_refl c)
  unchanged_in c s t Undo g = unchanged_undo c t (only t c.log)
  unchanged_in c s t Commit g = absurd g
  unchanged_in c s t Abort g = absurd g

  -- the history and the bound
  abbrev pub SameHistory : Log y → Log y → Type 0
  SameHistory c c' = (c'.history ≡ c.history) × (c'.bound ≡ c.bound)

  same_history_on : (c : Log y) (s t : ℕ) (r : Request y) → GoesOn r → SameHistory c (log_step_in y c s t r).0
  same_history_on c s t r g = let u = unchanged_in c s t r g in (u.history, u.bound)

  same_history_in : (c : Log y) (s t : ℕ) (r : Request y) → SameHistory c (log_step_in y c s t r).0
  same_history_in c s t Commit = (refl, refl)
  same_history_in c s t Abort = let u = unchanged_all t (only t c.log) c in (u.history, u.bound)
  same_history_in c s t Begin = same_history_on c s t Begin tt
  same_history_in c s t (Do b) = same_history_on c s t (Do b) tt
  same_history_in c s t (Save n) = same_history_on c s t (Save n) tt
  same_history_in c s t (Back n) = same_history_on c s t (Back n) tt
  same_history_in c s t Undo = same_history_on c s t Undo tt

  same_history_out : (c : Log y) (s : ℕ) (r : Request y) → SameHistory c (log_step_out y c s r).0
  same_history_out c s r = of_out y (λ _ p. SameHistory c p.0) c s (λ _ _ _. (refl, refl)) (λ _. (refl, refl)) r

  -- before the record is made, if one is
  pub same_history_at : (c : Log y) (s : ℕ) (r : Request y) (h : Option ℕ) → SameHistory c (log_step_at y c s r h).0
  same_history_at c s r (Some t) = same_history_in c s t r
  same_history_at c s r None = same_history_out c s r

  bound_noted : (s : ℕ) (r : Request y) (h : Option ℕ) (p : Log y × Answer) (b : Bool) → (log_noted b s r h p).0.bound ≡ p.0.bound
  bound_noted s r h p true = refl
  bound_noted s r h p false = refl

  pub bound_step : (c : Log y) (s : ℕ) (r : Request y) → (log_step y c s r).0.bound ≡ c.bound
  bound_step c s r =
      let p = log_step_at y c s r (transaction_in s c.opens) in
      bound_noted s r (transaction_in s c.opens) p (is_recorded r p.1) ∙ (same_history_at c s r (transaction_in s c.opens)).1

  pub bound_steps : (ps : List (ℕ × Request y)) (c : Log y) → (log_steps y c ps).bound ≡ c.bound
  bound_steps [] c = refl
  bound_steps (p ∷ ps) c = bound_steps ps (log_step y c p.0 p.1).0 ∙ bound_step c p.0 p.1
