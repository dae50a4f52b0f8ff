-- A machine whose sessions have other numbers answers them alike.
use Rattle.std.proofs.Common.{◌≡◌, ℕ, ◌+◌, ◌==◌, nat_lt, ◌-◌, ◌||◌, Bool, true, false, cond, List, [], ◌∷◌, map, Option, Some, None, refl, ap, ◌∙◌}
use Rattle.std.proofs.lemmas.List.{length-map}
use Rattle.cg_name.specs.Name.{Name, same_name}
use Rattle.cg_model.specs.System.{System, Done, Attempt, Refuse, Accept}
use Rattle.cg_model.specs.History.{Request, Begin, Do, Save, Back, Undo, Commit, Abort, Answer, Begun, Gave, Saved, WentBack, Committed, Aborted, Record, History, is_recorded}
use Rattle.cg_model.specs.Opens.{Opens, without, opens_after, opens}
use Rattle.cg_model.specs.Reply.{found_or}
use Rattle.cg_model.specs.Machine.{StackEntry, Did, Savepoint, Transaction, Machine, found, with_stack, dropped, is_full_machine, stack_holder, stack_has_savepoint, stack_entries, hits, unwound, back_to, went_back, step_in, step_out, step_at, found_number, noted, with_record, step, done_unless_held, accepted, newest_undone}
use Rattle.cg_model.specs.Output.{answers}

-- a choice under a function
under : {A B : Type 0} (g : A → B) (b : Bool) (x z : A) → cond b (g x) (g z) ≡ g (cond b x z)
under g true x z = refl
under g false x z = refl

module _ (y : System) (number : ℕ → ℕ) where
  abbrev new_record : Record y → Record y
  new_record r = record r { session = number r.session }

  abbrev pub new_history : History y → History y
  new_history h = map new_record h

  abbrev new_entry : StackEntry y → StackEntry y
  new_entry (Did t h c a d f) = Did t (new_history h) c a d f
  new_entry (Savepoint t h n) = Savepoint t (new_history h) n

  abbrev new_stack : List (StackEntry y) → List (StackEntry y)
  new_stack l = map new_entry l

  abbrev new_transaction : Transaction y → Transaction y
  new_transaction x = record { session = number x.session; number = x.number; stack = new_stack x.stack }

  abbrev new_transactions : List (Transaction y) → List (Transaction y)
  new_transactions xs = map new_transaction xs

  abbrev pub new_machine : Machine y → Machine y
  new_machine m = record m { transactions = new_transactions m.transactions; history = new_history m.history }

  abbrev new_step : Machine y × Answer → Machine y × Answer
  new_step p = (new_machine p.0, p.1)

  -- ---- stacks

  hits_new : (f : y.Footprint) (l : List (StackEntry y)) → hits y f (new_stack l) ≡ hits y f l
  hits_new f [] = refl
  hits_new f (Did t h c a d g ∷ l) = ap (λ b. y.clashes g f || b) (hits_new f l)
  hits_new f (Savepoint t h n ∷ l) = hits_new f l

  savepoint_new : (n : Name) (l : List (StackEntry y)) → stack_has_savepoint n (new_stack l) ≡ stack_has_savepoint n l
  savepoint_new n [] = refl
  savepoint_new n (Did t h c a d f ∷ l) = savepoint_new n l
  savepoint_new n (Savepoint t h m ∷ l) = ap (λ b. same_name m n || b) (savepoint_new n l)

  unwound_new : (l : List (StackEntry y)) (s : y.State) → unwound y (new_stack l) s ≡ unwound y l s
  unwound_new [] s = refl
  unwound_new (Did t h c a d f ∷ l) s = unwound_new l (y.undone d s)
  unwound_new (Savepoint t h n ∷ l) s = unwound_new l s

  abbrev new_back : List (StackEntry y) × y.State × Answer → List (StackEntry y) × y.State × Answer
  new_back r = (new_stack r.0, r.1, r.2)

  back_new : (n : Name) (l : List (StackEntry y)) (s : y.State) (k : ℕ) → back_to y n (new_stack l) s k ≡ new_back (back_to y n l s k)
  back_new n [] s k = refl
  back_new n (Did t h c a d f ∷ l) s k = back_new n l (y.undone d s) (k + 1)
  back_new n (Savepoint t h m ∷ l) s k =
      ap (λ r. choice (same_name m n) r) (back_new n l s k) ∙ under new_back (same_name m n) _ (back_to y n l s k)
    where
      choice : Bool → List (StackEntry y) × y.State × Answer → List (StackEntry y) × y.State × Answer
      choice b r = cond b (new_back (l, s, WentBack k)) r

  -- ---- transactions

  with_new : (t : ℕ) (l : List (StackEntry y)) (xs : List (Transaction y)) → with_stack t (new_stack l) (new_transactions xs) ≡ new_transactions (with_stack t l xs)
  with_new t l [] = refl
  with_new t l (x ∷ xs) = λ i. record { session = number x.session; number = x.number; stack = under new_stack (x.number == t) l x.stack i } ∷ with_new t l xs i

  dropped_new : (t : ℕ) (xs : List (Transaction y)) → dropped t (new_transactions xs) ≡ new_transactions (dropped t xs)
  dropped_new t [] = refl
  dropped_new t (x ∷ xs) = ap (λ r. cond (x.number == t) r (new_transaction x ∷ r)) (dropped_new t xs) ∙ under new_transactions (x.number == t) (dropped t xs) (x ∷ dropped t xs)

  holder_new : (f : y.Footprint) (xs : List (Transaction y)) → stack_holder y f (new_transactions xs) ≡ stack_holder y f xs
  holder_new f [] = refl
  holder_new f (x ∷ xs) = λ i. found_or (holder_new f xs i) (hits_new f x.stack i) x.number

  entries_new : (xs : List (Transaction y)) → stack_entries (new_transactions xs) ≡ stack_entries xs
  entries_new [] = refl
  entries_new (x ∷ xs) = λ i. length-map x.stack new_entry i + entries_new xs i

  full_new : (m : Machine y) → is_full_machine (new_machine m) ≡ is_full_machine m
  full_new m = λ i. nat_lt (m.bound - 2) (length-map m.history new_record i + (length-map m.transactions new_transaction i + entries_new m.transactions i))

  -- ---- a step of an open transaction

  accepted_new : (m : Machine y) (t : ℕ) (l : List (StackEntry y)) (c : y.Command) (e : Attempt y.Change) → accepted y (new_machine m) t (new_stack l) c e ≡ new_step (accepted y m t l c e)
  accepted_new m t l c (Refuse r) = refl
  accepted_new m t l c (Accept a d) =
      λ i. (record (new_machine m) { tree = y.done d m.tree; transactions = with_new t (Did t m.history c a d (y.footprint c m.tree) ∷ l) m.transactions i }, Gave a)

  done_new : (m : Machine y) (t : ℕ) (l : List (StackEntry y)) (c : y.Command) (u : Option ℕ) → done_unless_held y (new_machine m) t (new_stack l) c u ≡ new_step (done_unless_held y m t l c u)
  done_new m t l c (Some u) = refl
  done_new m t l c None = accepted_new m t l c (y.effect c m.tree)

  undone_new : (m : Machine y) (t : ℕ) (l : List (StackEntry y)) → newest_undone y (new_machine m) t (new_stack l) ≡ new_step (newest_undone y m t l)
  undone_new m t [] = refl
  undone_new m t (Savepoint u h n ∷ l) = refl
  undone_new m t (Did u h c a d f ∷ l) = λ i. (record (new_machine m) { tree = y.undone d m.tree; transactions = with_new t l m.transactions i }, Gave Done)

  went_new : (m : Machine y) (t : ℕ) (r : List (StackEntry y) × y.State × Answer) → went_back y (new_machine m) t (new_back r) ≡ new_step (went_back y m t r)
  went_new m t r = λ i. (record (new_machine m) { tree = r.1; transactions = with_new t r.0 m.transactions i }, r.2)

  -- a choice by a test, and its two ways
  chosen : (b c : Bool) (p q p' q' : Machine y × Answer) → b ≡ c → p ≡ new_step p' → q ≡ new_step q' → cond b p q ≡ new_step (cond c p' q')
  chosen b c p q p' q' e left right = (λ i. cond (e i) (left i) (right i)) ∙ under new_step c p' q'

  in_new : (m : Machine y) (t : ℕ) (l : List (StackEntry y)) (r : Request y) → step_in y (new_machine m) t (new_stack l) r ≡ new_step (step_in y m t l r)
  in_new m t l Begin = refl
  in_new m t l (Do c) =
      chosen _ _ _ _ _ _ (full_new m) refl
      (ap (done_unless_held y (new_machine m) t (new_stack l) c) (ap (stack_holder y (y.footprint c m.tree)) (dropped_new t m.transactions) ∙ holder_new (y.footprint c m.tree) (dropped t m.transactions))
      ∙ done_new m t l c (stack_holder y (y.footprint c m.tree) (dropped t m.transactions)))
  in_new m t l (Save n) =
      chosen _ _ _ _ _ _ (savepoint_new n l) refl
      (chosen _ _ _ _ _ _ (full_new m) refl (λ i. (record (new_machine m) { transactions = with_new t (Savepoint t m.history n ∷ l) m.transactions i }, Saved)))
  in_new m t l (Back n) =
      chosen _ _ _ _ _ _ (savepoint_new n l) (ap (went_back y (new_machine m) t) (back_new n l m.tree 0) ∙ went_new m t (back_to y n l m.tree 0)) refl
  in_new m t l Undo = undone_new m t l
  in_new m t l Commit = λ i. (record (new_machine m) { transactions = dropped_new t m.transactions i; commits = m.commits + 1 }, Committed (m.commits + 1))
  in_new m t l Abort = λ i. (record (new_machine m) { tree = unwound_new l m.tree i; transactions = dropped_new t m.transactions i }, Aborted t)

  -- ---- any step

  out_new : (m : Machine y) (s : ℕ) (r : Request y) → step_out y (new_machine m) (number s) r ≡ new_step (step_out y m s r)
  out_new m s Begin = chosen _ _ _ _ _ _ (full_new m) refl refl
  out_new m s (Do c) = refl
  out_new m s (Save n) = refl
  out_new m s (Back n) = refl
  out_new m s Undo = refl
  out_new m s Commit = refl
  out_new m s Abort = refl

  abbrev new_found : Option (ℕ × List (StackEntry y)) → Option (ℕ × List (StackEntry y))
  new_found None = None
  new_found (Some p) = Some (p.0, new_stack p.1)

  at_new : (m : Machine y) (s : ℕ) (r : Request y) (o : Option (ℕ × List (StackEntry y))) → step_at y (new_machine m) (number s) r (new_found o) ≡ new_step (step_at y m s r o)
  at_new m s r None = out_new m s r
  at_new m s r (Some p) = in_new m p.0 p.1 r

  number_new : (o : Option (ℕ × List (StackEntry y))) → found_number (new_found o) ≡ found_number o
  number_new None = refl
  number_new (Some p) = refl

  noted_new : (b : Bool) (s : ℕ) (r : Request y) (t : Option ℕ) (p : Machine y × Answer) → noted b (number s) r t (new_step p) ≡ new_step (noted b s r t p)
  noted_new true s r t p = refl
  noted_new false s r t p = refl

  module _ (apart : (s t : ℕ) → (number s == number t) ≡ (s == t)) where
    found_new : (s : ℕ) (xs : List (Transaction y)) → found (number s) (new_transactions xs) ≡ new_found (found s xs)
    found_new s [] = refl
    found_new s (x ∷ xs) =
        (λ i. cond (apart x.session s i) (Some (x.number, new_stack x.stack)) (found_new s xs i)) ∙ under new_found (x.session == s) (Some (x.number, x.stack)) (found s xs)

    pub step_new : (m : Machine y) (s : ℕ) (r : Request y) → step y (new_machine m) (number s) r ≡ new_step (step y m s r)
    step_new m s r =
        let o = found s m.transactions in
        ap (λ f. with_record (number s) r (found_number f) (step_at y (new_machine m) (number s) r f)) (found_new s m.transactions)
        ∙ (λ i. with_record (number s) r (number_new o i) (at_new m s r o i))
        ∙ noted_new (is_recorded r (step_at y m s r o).1) s r (found_number o) (step_at y m s r o)

    abbrev new_calls : List (ℕ × Request y) → List (ℕ × Request y)
    new_calls ps = map (λ p. (number p.0, p.1)) ps

    -- the same answers to the same requests
    pub answers_new : (m : Machine y) (ps : List (ℕ × Request y)) → answers y (new_machine m) (new_calls ps) ≡ ((answers y m ps).0, new_machine (answers y m ps).1)
    answers_new m [] = refl
    answers_new m (p ∷ ps) =
        (λ i. with_first (step_new m p.0 p.1 i)) ∙ (λ i. ((step y m p.0 p.1).1 ∷ (answers_new (step y m p.0 p.1).0 ps i).0, (answers_new (step y m p.0 p.1).0 ps i).1))
      where
        with_first : Machine y × Answer → List Answer × Machine y
        with_first q = (q.1 ∷ (answers y q.0 (new_calls ps)).0, (answers y q.0 (new_calls ps)).1)

  -- ---- what is open

  abbrev new_opens : Opens → Opens
  new_opens ps = map (λ p. (number p.0, p.1)) ps

  without_new : (t : ℕ) (ps : Opens) → without t (new_opens ps) ≡ new_opens (without t ps)
  without_new t [] = refl
  without_new t (p ∷ ps) = ap (λ r. cond (p.1 == t) r ((number p.0, p.1) ∷ r)) (without_new t ps) ∙ under new_opens (p.1 == t) (without t ps) (p ∷ without t ps)

  after_new : (a : Answer) (s t : ℕ) (ps : Opens) → opens_after a (number s) t (new_opens ps) ≡ new_opens (opens_after a s t ps)
  after_new (Begun u) s t ps = refl
  after_new (Committed k) s t ps = without_new t ps
  after_new (Aborted u) s t ps = without_new t ps
  after_new _ s t ps = refl

  pub opens_new : (h : History y) → opens (new_history h) ≡ new_opens (opens h)
  opens_new [] = refl
  opens_new (r ∷ h) = ap (opens_after r.answer (number r.session) r.transaction) (opens_new h) ∙ after_new r.answer r.session r.transaction (opens h)
