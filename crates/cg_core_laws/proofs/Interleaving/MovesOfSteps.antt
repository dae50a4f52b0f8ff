-- What a step changes: of one transaction the stack, or whether it is open; and but for its record nothing of the history.
use Rattle.std.proofs.Common.{◌≡◌, ℕ, ◌==◌, Bool, true, false, cond, List, [], ◌∷◌, Option, Some, None, is_some, inl, inr, ◌⊎◌, refl, sym, ap, subst, subst₂, ◌∙◌, true≢false}
use Rattle.std.proofs.lemmas.Bool.{cond_both, eqb-true}
use Rattle.std.proofs.lemmas.Option.{same_Some}
use Rattle.std.specs.List.{AllByRecursion}
use Rattle.cg_model.specs.System.{System, Attempt, Refuse, Accept}
use Rattle.cg_model.specs.History.{Request, Begin, Do, Save, Back, Undo, Commit, Abort, Answer, is_recorded}
use Rattle.cg_model.specs.Machine.{StackEntry, Did, Savepoint, Transaction, Machine, found, with_stack, dropped, is_full_machine, stack_holder, stack_has_savepoint, step_in, step_out, step_at, found_number, noted, step, done_unless_held, accepted, newest_undone}

module _ (y : System) where
  -- ---- a step, but for the history

  -- tree, transactions and the count of begins are the same
  pub record Same (m n : Machine y) : Type 0 where
    pub tree : m.tree ≡ n.tree
    pub transactions : m.transactions ≡ n.transactions
    pub begun : m.begun ≡ n.begun

  noted_same : (b : Bool) (s : ℕ) (r : Request y) (t : Option ℕ) (p : Machine y × Answer) → Same (noted b s r t p).0 p.0
  noted_same true s r t p = record { tree = refl; transactions = refl; begun = refl }
  noted_same false s r t p = record { tree = refl; transactions = refl; begun = refl }

  noted_answer : (b : Bool) (s : ℕ) (r : Request y) (t : Option ℕ) (p : Machine y × Answer) → (noted b s r t p).1 ≡ p.1
  noted_answer true s r t p = refl
  noted_answer false s r t p = refl

  module _ (m : Machine y) (s : ℕ) (r : Request y) (o : Option (ℕ × List (StackEntry y))) (is : found s m.transactions ≡ o) where
    abbrev at : Option (ℕ × List (StackEntry y)) → Machine y × Answer
    at k = step_at y m s r k

    pub step_same : Same (step y m s r).0 (step_at y m s r o).0
    step_same = subst (λ k. Same (step y m s r).0 (at k).0) is (noted_same (is_recorded r (at (found s m.transactions)).1) s r (found_number (found s m.transactions)) (at (found s m.transactions)))

    pub step_answer : (step y m s r).1 ≡ (step_at y m s r o).1
    step_answer = noted_answer (is_recorded r (at (found s m.transactions)).1) s r (found_number (found s m.transactions)) (at (found s m.transactions)) ∙ ap (λ k. (at k).1) is

  -- ---- a step of the transaction t gives it another stack, or ends it, or leaves the transactions

  abbrev pub Moved : ℕ → List (Transaction y) → List (Transaction y) → Type 0
  Moved t xs xs' = (xs' ≡ xs) ⊎ (((k : List (StackEntry y)) × (xs' ≡ with_stack t k xs)) ⊎ (xs' ≡ dropped t xs))

  pub record Moves (m : Machine y) (t : ℕ) (p : Machine y × Answer) : Type 0 where
    pub transactions : Moved t m.transactions p.0.transactions
    pub begun : p.0.begun ≡ m.begun
    pub history : p.0.history ≡ m.history

  stays : (m : Machine y) (t : ℕ) (a : Answer) → Moves m t (m, a)
  stays m t a = record { transactions = inl refl; begun = refl; history = refl }

  moves_accepted : (m : Machine y) (t : ℕ) (l : List (StackEntry y)) (c : y.Command) (e : Attempt y.Change) → Moves m t (accepted y m t l c e)
  moves_accepted m t l c (Refuse x) = stays m t _
  moves_accepted m t l c (Accept a d) = record { transactions = inr (inl (_, refl)); begun = refl; history = refl }

  moves_done : (m : Machine y) (t : ℕ) (l : List (StackEntry y)) (c : y.Command) (u : Option ℕ) → Moves m t (done_unless_held y m t l c u)
  moves_done m t l c (Some u) = stays m t _
  moves_done m t l c None = moves_accepted m t l c (y.effect c m.tree)

  moves_undone : (m : Machine y) (t : ℕ) (l : List (StackEntry y)) → Moves m t (newest_undone y m t l)
  moves_undone m t [] = stays m t _
  moves_undone m t (Savepoint u h n ∷ l) = stays m t _
  moves_undone m t (Did u h c a d f ∷ l) = record { transactions = inr (inl (l, refl)); begun = refl; history = refl }

  pub moves_in : (m : Machine y) (t : ℕ) (l : List (StackEntry y)) (r : Request y) → Moves m t (step_in y m t l r)
  moves_in m t l Begin = stays m t _
  moves_in m t l (Do c) = cond_both (is_full_machine m) _ _ (Moves m t) (λ _. stays m t _) (λ _. moves_done m t l c (stack_holder y (y.footprint c m.tree) (dropped t m.transactions)))
  moves_in m t l (Save n) =
      cond_both (stack_has_savepoint n l) _ _ (Moves m t) (λ _. stays m t _)
      (λ _. cond_both (is_full_machine m) _ _ (Moves m t) (λ _. stays m t _) (λ _. record { transactions = inr (inl (_, refl)); begun = refl; history = refl }))
  moves_in m t l (Back n) =
      cond_both (stack_has_savepoint n l) _ _ (Moves m t) (λ _. record { transactions = inr (inl (_, refl)); begun = refl; history = refl }) (λ _. stays m t _)
  moves_in m t l Undo = moves_undone m t l
  moves_in m t l Commit = record { transactions = inr (inr refl); begun = refl; history = refl }
  moves_in m t l Abort = record { transactions = inr (inr refl); begun = refl; history = refl }

  -- ---- what holds of each transaction's session and number

  module _ (P : ℕ → ℕ → Type 0) where
    abbrev pub AllAre : List (Transaction y) → Type 0
    AllAre xs = AllByRecursion (λ (x : Transaction y). P x.session x.number) xs

    pub all_with_stack : (t : ℕ) (k : List (StackEntry y)) (xs : List (Transaction y)) → AllAre xs → AllAre (with_stack t k xs)
    all_with_stack t k [] h = tt
    all_with_stack t k (x ∷ xs) h = (h.0, all_with_stack t k xs h.1)

    pub all_dropped : (t : ℕ) (xs : List (Transaction y)) → AllAre xs → AllAre (dropped t xs)
    all_dropped t [] h = tt
    all_dropped t (x ∷ xs) h = cond_both (x.number == t) _ _ AllAre (λ _. all_dropped t xs h.1) (λ _. (h.0, all_dropped t xs h.1))

    pub all_moved : (t : ℕ) (xs xs' : List (Transaction y)) → Moved t xs xs' → AllAre xs → AllAre xs'
    all_moved t xs xs' moved h = elim moved as (λ _. AllAre xs') [
      | inl e ↦ subst AllAre (sym e) h
      | inr v ↦ elim v as (λ _. AllAre xs') [
        | inl w ↦ subst AllAre (sym w.1) (all_with_stack t w.0 xs h)
        | inr e ↦ subst AllAre (sym e) (all_dropped t xs h)
      ]
    ]

    -- of one that is found
    pub of_found : (s : ℕ) (xs : List (Transaction y)) (t : ℕ) (l : List (StackEntry y)) → found s xs ≡ Some (t, l) → AllAre xs → P s t
    of_found s [] t l e h = absurd (true≢false (sym (ap is_some e)))
    of_found s (x ∷ xs) t l e h = here (x.session == s) refl e (λ e. of_found s xs t l e h.1)
      where
        here : (b : Bool) → (x.session == s) ≡ b → cond b (Some (x.number, x.stack)) (found s xs) ≡ Some (t, l) → (found s xs ≡ Some (t, l) → P s t) → P s t
        here true k e rest = subst₂ P (eqb-true x.session s k) (ap (λ (p : ℕ × List (StackEntry y)). p.0) (same_Some (x.number, x.stack) (t, l) e)) h.0
        here false k e rest = rest e

  -- ---- the history before the record

  history_out : (m : Machine y) (s : ℕ) (r : Request y) → (step_out y m s r).0.history ≡ m.history
  history_out m s Begin = cond_both (is_full_machine m) _ _ (λ (p : Machine y × Answer). p.0.history ≡ m.history) (λ _. refl) (λ _. refl)
  history_out m s (Do c) = refl
  history_out m s (Save n) = refl
  history_out m s (Back n) = refl
  history_out m s Undo = refl
  history_out m s Commit = refl
  history_out m s Abort = refl

  pub history_at : (m : Machine y) (s : ℕ) (r : Request y) (o : Option (ℕ × List (StackEntry y))) → (step_at y m s r o).0.history ≡ m.history
  history_at m s r None = history_out m s r
  history_at m s r (Some p) = (moves_in m p.0 p.1 r).history
