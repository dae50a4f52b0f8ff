-- The machine runs as the machine with a log.
use Rattle.std.proofs.Common.{◌≡◌, ℕ, suc, ◌+◌, ◌-◌, Bool, true, false, cond, List, [], ◌∷◌, length, ◌==◌, Option, Some, None, refl, sym, ap, ◌∙◌}
use Rattle.std.specs.Prelude.{nat_lt}
use Rattle.std.proofs.lemmas.Bool.{eqb-true, eq-eqb}
use Rattle.std.specs.Cmp.{nat_eq_equiv}
use Rattle.cg_name.specs.Name.{Name, same_name}
use Rattle.cg_model.specs.System.{System, Attempt, Refuse, Accept}
use Rattle.cg_model.specs.History.{Request, Begin, Do, Save, Back, Undo, Commit, Abort, Answer, Begun, Saved, is_recorded}
use Rattle.cg_model.specs.Opens.{Opens, numbers, without, transaction_in}
use Rattle.cg_model.specs.Reply.{found_or}
use Rattle.cg_model.specs.Machine.{StackEntry, Did, Savepoint, Transaction, Machine, opened, found, with_stack, dropped, hits, stack_holder, stack_has_savepoint, stack_entries, is_full_machine, unwound, back_to, accepted, done_unless_held, newest_undone, step_in, step_out, step_at, found_number, noted, step, steps}
use Rattle.cg_core_laws.specs.Serial.{AreProper}
use Rattle.cg_core_laws.proofs.Interleaving.SystemLaws.{SystemLaws}
use Rattle.cg_core_laws.proofs.Interleaving.RunsOfStackEntries.{owner, only, cut}
use Rattle.cg_core_laws.proofs.Interleaving.LogMachine.{Log, log_opened, log_holder, pop, pop_all, log_back_to, try_do, do_at, undo_at, others, held, is_full_log, log_step_in, log_step_out, log_step_at, log_noted, log_step, log_steps}
use Rattle.cg_core_laws.proofs.Interleaving.TakingOff.{cut_keep, cut_own}
use Rattle.cg_core_laws.proofs.Interleaving.LogInvariant.{OwnersUpTo, Kept}
use Rattle.cg_core_laws.proofs.Interleaving.LogInvariantKept.{none_of_next, step_kept, start_kept}
use Rattle.cg_core_laws.proofs.Interleaving.UnchangedBySteps.{Unchanged, unchanged_all, unchanged_back}
use Rattle.cg_core_laws.proofs.Interleaving.MachineOfLog.{stacks_of, machine_of}

module _ (y : System) where
  -- with its answer
  abbrev both : Log y × Answer → Machine y × Answer
  both p = (machine_of p.0, p.1)

  abbrev lifted : List (StackEntry y) → Option ℕ → Option (ℕ × List (StackEntry y))
  lifted log None = None
  lifted log (Some t) = Some (t, only t log)

  found_cond : (log : List (StackEntry y)) (b : Bool) (t : ℕ) (r : Option ℕ) → cond b (Some (t, only t log)) (lifted log r) ≡ lifted log (cond b (Some t) r)
  found_cond log true t r = refl
  found_cond log false t r = refl

  found_is : (s : ℕ) (ps : Opens) (log : List (StackEntry y)) → found s (stacks_of ps log) ≡ lifted log (transaction_in s ps)
  found_is s [] log = refl
  found_is s (p ∷ ps) log = ap (cond (p.0 == s) (Some (p.1, only p.1 log))) (found_is s ps log) ∙ found_cond log (p.0 == s) p.1 (transaction_in s ps)

  dropped_cond : (b : Bool) (p : ℕ × ℕ) (r : Opens) (log : List (StackEntry y)) → stacks_of (cond b r (p ∷ r)) log ≡ cond b (stacks_of r log) (record { session = p.0; number = p.1; stack = only p.1 log } ∷ stacks_of r log)
  dropped_cond true p r log = refl
  dropped_cond false p r log = refl

  dropped_is : (t : ℕ) (ps : Opens) (log : List (StackEntry y)) → stacks_of (without t ps) log ≡ dropped t (stacks_of ps log)
  dropped_is t [] log = refl
  dropped_is t (p ∷ ps) log =
      dropped_cond (p.1 == t) p (without t ps) log ∙ ap (λ (r : List (Transaction y)). cond (p.1 == t) r (record { session = p.0; number = p.1; stack = only p.1 log } ∷ r)) (dropped_is t ps log)

  stack_holder_is : (f : y.Footprint) (ps : Opens) (log : List (StackEntry y)) → log_holder y f log (numbers ps) ≡ stack_holder y f (stacks_of ps log)
  stack_holder_is f [] log = refl
  stack_holder_is f (p ∷ ps) log = ap (λ o. found_or o (hits y f (only p.1 log)) p.1) (stack_holder_is f ps log)

  entries_are : (ps : Opens) (log : List (StackEntry y)) → held ps log ≡ stack_entries (stacks_of ps log)
  entries_are [] log = refl
  entries_are (p ∷ ps) log = ap (λ n. length (only p.1 log) + n) (entries_are ps log)

  length_is : (ps : Opens) (log : List (StackEntry y)) → length ps ≡ length (stacks_of ps log)
  length_is [] log = refl
  length_is (p ∷ ps) log = ap suc (length_is ps log)

  full_machine_is : (c : Log y) → is_full_log c ≡ is_full_machine (machine_of c)
  full_machine_is c =
      rw (entries_are c.opens c.log) (ap (λ n. nat_lt (c.bound - 2) (length c.history + (n + stack_entries (stacks_of c.opens c.log)))) (length_is c.opens c.log))

  -- t's stack is l now, and no other stack is another
  record Alone (t : ℕ) (log log' : List (StackEntry y)) (l : List (StackEntry y)) : Type 0 where
    own : only t log' ≡ l
    other : (u : ℕ) → (t == u) ≡ false → only u log' ≡ only u log

  with_stack_cond : (t u : ℕ) (log log' l : List (StackEntry y)) (b : Bool) → (u == t) ≡ b → Alone t log log' l → only u log' ≡ cond b l (only u log)
  with_stack_cond t u log log' l true k i = ap (λ v. only v log') (eqb-true u t k) ∙ i.own
  with_stack_cond t u log log' l false k i = i.other u (nat_eq_equiv.symm t u ∙ k)

  with_stack_is : (t : ℕ) (ps : Opens) (log log' l : List (StackEntry y)) → Alone t log log' l → stacks_of ps log' ≡ with_stack t l (stacks_of ps log)
  with_stack_is t [] log log' l i = refl
  with_stack_is t (p ∷ ps) log log' l i =
      ap (λ (r : List (Transaction y)). record { session = p.0; number = p.1; stack = only p.1 log' } ∷ r) (with_stack_is t ps log log' l i)
      ∙ ap (λ (z : List (StackEntry y)). record { session = p.0; number = p.1; stack = z } ∷ with_stack t l (stacks_of ps log)) (with_stack_cond t p.1 log log' l (p.1 == t) refl i)

  push_alone : (t : ℕ) (x : StackEntry y) (log : List (StackEntry y)) → owner x ≡ t → Alone t log (x ∷ log) (x ∷ only t log)
  push_alone t x log e = record {
    own = let k : (owner x == t) ≡ true = eq-eqb (owner x) t e in rw k;
    other = λ u n. let k : (owner x == u) ≡ false = ap (λ v. v == u) e ∙ n in rw k;
  }

  pop_alone : (t : ℕ) (x : StackEntry y) (log l : List (StackEntry y)) → only t log ≡ x ∷ l → Alone t log (cut t log) l
  pop_alone t x log l e = record { own = cut_own y t x log l e; other = λ u n. cut_keep y t (λ v. v == u) log n }

  -- what pops leave: t's stack and the tree
  record Popped (t : ℕ) (c c' : Log y) (l : List (StackEntry y)) (s : y.State) : Type 0 where
    stacks : Alone t c.log c'.log l
    tree : c'.tree ≡ s

  pop_first : (t : ℕ) (x : StackEntry y) (l m : List (StackEntry y)) (s : y.State) (c c' : Log y) → only t c.log ≡ x ∷ l → Popped t (pop y c t x) c' m s → Popped t c c' m s
  pop_first t x l m s c c' e p =
      let q = pop_alone t x c.log l e in
      record { stacks = record { own = p.stacks.own; other = λ u n. p.stacks.other u n ∙ q.other u n }; tree = p.tree }

  all_popped : (t : ℕ) (l : List (StackEntry y)) (c : Log y) → only t c.log ≡ l → Popped t c (pop_all y t l c) [] (unwound y l c.tree)
  all_popped t [] c e = record { stacks = record { own = e; other = λ u n. refl }; tree = refl }
  all_popped t (Did u h b a d f ∷ l) c e =
      let x : StackEntry y = Did u h b a d f in
      pop_first t x l [] _ c _ e (all_popped t l (pop y c t x) (cut_own y t x c.log l e))
  all_popped t (Savepoint u h n ∷ l) c e =
      let x : StackEntry y = Savepoint u h n in
      pop_first t x l [] _ c _ e (all_popped t l (pop y c t x) (cut_own y t x c.log l e))

  abbrev BackPopped : ℕ → Log y → Log y × Answer → List (StackEntry y) × y.State × Answer → Type 0
  BackPopped t c p r = Popped t c p.0 r.0 r.1 × (p.1 ≡ r.2)

  back_cond : (t : ℕ) (c : Log y) (b : Bool) (p q : Log y × Answer) (r r' : List (StackEntry y) × y.State × Answer) → BackPopped t c p r → BackPopped t c q r' → BackPopped t c (cond b p q) (cond b r r')
  back_cond t c true p q r r' i j = i
  back_cond t c false p q r r' i j = j

  back_popped : (t : ℕ) (n : Name) (l : List (StackEntry y)) (c : Log y) (k : ℕ) → only t c.log ≡ l → BackPopped t c (log_back_to y t n l c k) (back_to y n l c.tree k)
  back_popped t n [] c k e = (record { stacks = record { own = e; other = λ u n. refl }; tree = refl }, refl)
  back_popped t n (Did u h b a d f ∷ l) c k e =
      let x : StackEntry y = Did u h b a d f in
      let p = back_popped t n l (pop y c t x) (k + 1) (cut_own y t x c.log l e) in
      (pop_first t x l _ _ c _ e p.0, p.1)
  back_popped t n (Savepoint u h m ∷ l) c k e =
      let x : StackEntry y = Savepoint u h m in
      let p = back_popped t n l (pop y c t x) k (cut_own y t x c.log l e) in
      let now : Popped t c (pop y c t x) l c.tree = record { stacks = pop_alone t x c.log l e; tree = refl } in
      back_cond t c (same_name m n) _ _ _ _ (now, refl) (pop_first t x l _ _ c _ e p.0, p.1)

  machine_same : (m m' : Machine y) → m.tree ≡ m'.tree → m.transactions ≡ m'.transactions → m.begun ≡ m'.begun → m.commits ≡ m'.commits → m.history ≡ m'.history → m.bound ≡ m'.bound → m ≡ m'
  machine_same m m' a b c e f g = λ i. record { tree = a i; transactions = b i; begun = c i; commits = e i; history = f i; bound = g i }

  both_same : (p : Log y × Answer) (m : Machine y) (a : Answer) → machine_of p.0 ≡ m → p.1 ≡ a → both p ≡ (m, a)
  both_same p m a e f = λ i. (e i, f i)

  cond_both : (b b' : Bool) (p q : Log y × Answer) (r r' : Machine y × Answer) → b ≡ b' → both p ≡ r → both q ≡ r' → both (cond b p q) ≡ cond b' r r'
  cond_both true b' p q r r' e i j = rw (← e) i
  cond_both false b' p q r r' e i j = rw (← e) j

  popped_machine : (t : ℕ) (c c' : Log y) (l : List (StackEntry y)) (s : y.State) → Unchanged y c c' → Popped t c c' l s → machine_of c' ≡ record { tree = s; transactions = with_stack t l (stacks_of c.opens c.log); begun = c.begun; commits = c.commits; history = c.history; bound = c.bound }
  popped_machine t c c' l s u p =
      machine_same _ _ p.tree (ap (λ ps. stacks_of ps c'.log) u.opens ∙ with_stack_is t c.opens c.log c'.log l p.stacks) u.begun u.commits u.history u.bound

  push_machine : (t : ℕ) (c : Log y) (x : StackEntry y) → owner x ≡ t → stacks_of c.opens (x ∷ c.log) ≡ with_stack t (x ∷ only t c.log) (stacks_of c.opens c.log)
  push_machine t c x e = with_stack_is t c.opens c.log (x ∷ c.log) (x ∷ only t c.log) (push_alone t x c.log e)

  try_is : (c : Log y) (t : ℕ) (b : y.Command) (r : Attempt y.Change) → both (try_do y c t b r) ≡ accepted y (machine_of c) t (only t c.log) b r
  try_is c t b (Accept a d) =
      both_same (try_do y c t b (Accept a d)) _ _ (machine_same _ _ refl (push_machine t c (Did t c.history b a d (y.footprint b c.tree)) refl) refl refl refl refl) refl
  try_is c t b (Refuse x) = refl

  do_is : (c : Log y) (t : ℕ) (b : y.Command) (h : Option ℕ) → both (do_at y c t b h) ≡ done_unless_held y (machine_of c) t (only t c.log) b h
  do_is c t b (Some u) = refl
  do_is c t b None = try_is c t b (y.effect b c.tree)

  undo_is : (c : Log y) (t : ℕ) (l : List (StackEntry y)) → only t c.log ≡ l → both (undo_at y c t l) ≡ newest_undone y (machine_of c) t l
  undo_is c t [] e = refl
  undo_is c t (Savepoint u h n ∷ l) e = refl
  undo_is c t (Did u h b a d f ∷ l) e =
      let x : StackEntry y = Did u h b a d f in
      both_same (undo_at y c t (x ∷ l)) _ _ (machine_same _ _ refl (with_stack_is t c.opens c.log (cut t c.log) l (pop_alone t x c.log l e)) refl refl refl refl) refl

  -- a transaction whose stack goes is not seen
  dropped_alone : (t : ℕ) (ps : Opens) (log log' l : List (StackEntry y)) → Alone t log log' l → dropped t (stacks_of ps log') ≡ dropped t (stacks_of ps log)
  dropped_alone t [] log log' l i = refl
  dropped_alone t (p ∷ ps) log log' l i = at (p.1 == t) refl (dropped_alone t ps log log' l i)
    where
      at : (b : Bool) → (p.1 == t) ≡ b → dropped t (stacks_of ps log') ≡ dropped t (stacks_of ps log) → ◌≡◌ {A = List (Transaction y)} (cond b (dropped t (stacks_of ps log')) (record { session = p.0; number = p.1; stack = only p.1 log' } ∷ dropped t (stacks_of ps log'))) (cond b (dropped t (stacks_of ps log)) (record { session = p.0; number = p.1; stack = only p.1 log } ∷ dropped t (stacks_of ps log)))
      at true k e = e
      at false k e = rw (e, i.other p.1 (nat_eq_equiv.symm t p.1 ∙ k))

  in_is : (c : Log y) (s t : ℕ) (r : Request y) → both (log_step_in y c s t r) ≡ step_in y (machine_of c) t (only t c.log) r
  in_is c s t Begin = refl
  in_is c s t (Do b) =
      cond_both (is_full_log c) (is_full_machine (machine_of c)) _ _ _ _ (full_machine_is c) refl
      (do_is c t b (log_holder y (y.footprint b c.tree) c.log (others y c t)) ∙ ap (done_unless_held y (machine_of c) t (only t c.log) b) (stack_holder_is (y.footprint b c.tree) (without t c.opens) c.log ∙ ap (stack_holder y (y.footprint b c.tree)) (dropped_is t c.opens c.log)))
  in_is c s t (Save n) =
      cond_both (stack_has_savepoint n (only t c.log)) (stack_has_savepoint n (only t c.log)) _ _ _ _ refl refl
      (cond_both (is_full_log c) (is_full_machine (machine_of c)) _ _ _ _ (full_machine_is c) refl (both_same (record c { log = Savepoint t c.history n ∷ c.log }, Saved) _ _ (machine_same _ _ refl (push_machine t c (Savepoint t c.history n) refl) refl refl refl refl) refl))
  in_is c s t (Back n) =
      let p = back_popped t n (only t c.log) c 0 refl in
      cond_both (stack_has_savepoint n (only t c.log)) (stack_has_savepoint n (only t c.log)) _ _ _ _ refl
      (both_same (log_back_to y t n (only t c.log) c 0) _ _ (popped_machine t c _ _ _ (unchanged_back y t n (only t c.log) c 0) p.0) p.1) refl
  in_is c s t Undo = undo_is c t (only t c.log) refl
  in_is c s t Commit = both_same (log_step_in y c s t Commit) _ _ (machine_same _ _ refl (dropped_is t c.opens c.log) refl refl refl refl) refl
  in_is c s t Abort =
      let p = all_popped t (only t c.log) c refl in
      let u = unchanged_all y t (only t c.log) c in
      let c' = pop_all y t (only t c.log) c in
      both_same (log_step_in y c s t Abort) _ _ (machine_same _ _ p.tree (dropped_is t c'.opens c'.log ∙ ap (λ ps. dropped t (stacks_of ps c'.log)) u.opens ∙ dropped_alone t c.opens c.log c'.log [] p.stacks) u.begun u.commits u.history u.bound) refl

  out_is : (c : Log y) (s : ℕ) (r : Request y) → OwnersUpTo c.begun c.log → both (log_step_out y c s r) ≡ step_out y (machine_of c) s r
  out_is c s Begin w =
      let c' : Log y = record c { opens = (s, c.begun + 1) ∷ c.opens; begun = c.begun + 1 } in
      let e = none_of_next y c.begun c.log w in
      cond_both (is_full_log c) (is_full_machine (machine_of c)) _ _ _ _ (full_machine_is c) refl
      (both_same (c', Begun (c.begun + 1)) _ _ (machine_same _ _ refl (ap (λ (l : List (StackEntry y)). record { session = s; number = c.begun + 1; stack = l } ∷ stacks_of c.opens c.log) e) refl refl refl refl) refl)
  out_is c s (Do b) w = refl
  out_is c s (Save n) w = refl
  out_is c s (Back n) w = refl
  out_is c s Undo w = refl
  out_is c s Commit w = refl
  out_is c s Abort w = refl

  at_is : (c : Log y) (s : ℕ) (r : Request y) (h : Option ℕ) → OwnersUpTo c.begun c.log → both (log_step_at y c s r h) ≡ step_at y (machine_of c) s r (lifted c.log h)
  at_is c s r (Some t) w = in_is c s t r
  at_is c s r None w = out_is c s r w

  number_is : (log : List (StackEntry y)) (h : Option ℕ) → found_number (lifted log h) ≡ h
  number_is log (Some t) = refl
  number_is log None = refl

  noted_is : (b : Bool) (s : ℕ) (r : Request y) (h : Option ℕ) (p : Log y × Answer) → both (log_noted b s r h p) ≡ noted b s r h (both p)
  noted_is true s r h p = refl
  noted_is false s r h p = refl

  -- one step
  pub step_is : (c : Log y) (s : ℕ) (r : Request y) → OwnersUpTo c.begun c.log → both (log_step y c s r) ≡ step y (machine_of c) s r
  step_is c s r w =
      let h = transaction_in s c.opens in
      let p = log_step_at y c s r h in
      let at = step_at y (machine_of c) s r in
      noted_is (is_recorded r p.1) s r h p
      ∙ ap (λ (q : Machine y × Answer). noted (is_recorded r q.1) s r h q) (at_is c s r h w)
      ∙ ap (λ (g : Option ℕ). noted (is_recorded r (at (lifted c.log h)).1) s r g (at (lifted c.log h))) (sym (number_is c.log h))
      ∙ ap (λ (g : Option (ℕ × List (StackEntry y))). noted (is_recorded r (at g).1) s r (found_number g) (at g)) (sym (found_is s c.opens c.log))

module _ (y : System) (laws : SystemLaws y) (o : y.State) where
  steps_from : (ps : List (ℕ × Request y)) (c : Log y) → AreProper ps → Kept y o c → machine_of (log_steps y c ps) ≡ steps y (machine_of c) ps
  steps_from [] c proper k = refl
  steps_from (p ∷ ps) c proper k =
      let e = step_is y c p.0 p.1 k.owners in
      steps_from ps (log_step y c p.0 p.1).0 proper.1 (step_kept y laws o c p.0 p.1 proper.0 k) ∙ ap (λ (q : Machine y × Answer). steps y q.0 ps) e

  -- all steps
  pub steps_are : (bound : ℕ) (ps : List (ℕ × Request y)) → AreProper ps → machine_of (log_steps y (log_opened y o bound) ps) ≡ steps y (opened y o bound) ps
  steps_are bound ps proper = steps_from ps (log_opened y o bound) proper (start_kept y laws o bound)
