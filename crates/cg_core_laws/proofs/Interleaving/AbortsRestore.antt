-- An abort gives back the tree of its begin, where no other session changed it in between: what stands of the transaction would
-- at any time lead back there.
use Rattle.std.proofs.Common.{◌≡◌, ℕ, ◌+◌, ◌<◌, ◌≤◌, ◌==◌, Bool, true, false, cond, List, [], ◌∷◌, Option, Some, None, is_some, inl, inr, ◌⊎◌, refl, sym, ap, subst, ◌∙◌, true≢false, arith}
use Rattle.std.proofs.lemmas.Bool.{cond_both, eqb-true, eq-eqb, false_from_ne_true}
use Rattle.std.proofs.lemmas.Option.{same_Some}
use Rattle.cg_name.specs.Name.{Name, same_name}
use Rattle.cg_name.specs.declared.refusal.Refusal.TheVariants.{Full}
use Rattle.cg_model.specs.System.{System, Attempt, Refuse, Accept}
use Rattle.cg_model.specs.History.{Request, Begin, Do, Save, Back, Undo, Commit, Abort, Answer, Begun, Aborted, Refused}
use Rattle.cg_model.specs.Opens.{Opens}
use Rattle.cg_model.specs.Machine.{StackEntry, Did, Savepoint, Transaction, Machine, opened, found, with_stack, dropped, is_full_machine, stack_holder, stack_has_savepoint, unwound, back_to, step_in, step_out, step_at, step, steps, done_unless_held, accepted, newest_undone}
use Rattle.cg_core_laws.specs.Restored.{OnlyChanges}
use Rattle.cg_core_laws.specs.Serial.{AreProper}
use Rattle.cg_core_laws.proofs.Interleaving.SystemLaws.{SystemLaws}
use Rattle.cg_core_laws.proofs.Interleaving.LeastHolder.{Falls, falls_more, falling}
use Rattle.cg_core_laws.proofs.Interleaving.MachineOfLog.{stacks_of}
use Rattle.cg_core_laws.proofs.Interleaving.MachineRunsAsLog.{steps_are}
use Rattle.cg_core_laws.proofs.Interleaving.MovesOfSteps.{Same, step_same, step_answer, Moved, Moves, moves_in, AllAre, all_with_stack, all_moved, of_found}

module _ (y : System) where
  -- ---- a session's own stack

  found_with : (s t : ℕ) (k l : List (StackEntry y)) (xs : List (Transaction y)) → found s xs ≡ Some (t, l) → found s (with_stack t k xs) ≡ Some (t, k)
  found_with s t k l [] e = absurd (true≢false (sym (ap is_some e)))
  found_with s t k l (x ∷ xs) e = here (x.session == s) e (found_with s t k l xs)
    where
      here : (b : Bool) → cond b (Some (x.number, x.stack)) (found s xs) ≡ Some (t, l) → (found s xs ≡ Some (t, l) → found s (with_stack t k xs) ≡ Some (t, k)) → cond b (Some (x.number, cond (x.number == t) k x.stack)) (found s (with_stack t k xs)) ≡ Some (t, k)
      here true e rest =
          let is : x.number ≡ t = ap (λ (p : ℕ × List (StackEntry y)). p.0) (same_Some (x.number, x.stack) (t, l) e) in
          λ i. Some (is i, (ap (λ b. cond b k x.stack) (eq-eqb x.number t is)) i)
      here false e rest = rest e

  -- a stack that is found stays where other transactions than that of its session change or go
  module _ (s t : ℕ) where
    abbrev IsOther : ℕ → ℕ → Type 0
    IsOther s' n = (s' == s) ≡ true → (n == t) ≡ false

    found_beside : (k : List (StackEntry y)) (xs : List (Transaction y)) → AllAre y IsOther xs → found s (with_stack t k xs) ≡ found s xs
    found_beside k [] h = refl
    found_beside k (x ∷ xs) h = here (x.session == s) refl (found_beside k xs h.1)
      where
        here : (b : Bool) → (x.session == s) ≡ b → found s (with_stack t k xs) ≡ found s xs → cond b (Some (x.number, cond (x.number == t) k x.stack)) (found s (with_stack t k xs)) ≡ cond b (Some (x.number, x.stack)) (found s xs)
        here true e rest = ap (λ c. Some (x.number, cond c k x.stack)) (h.0 e)
        here false e rest = rest

    found_left : (xs : List (Transaction y)) → AllAre y IsOther xs → found s (dropped t xs) ≡ found s xs
    found_left [] h = refl
    found_left (x ∷ xs) h = here (x.number == t) refl (x.session == s) refl (found_left xs h.1)
      where
        here : (d : Bool) → (x.number == t) ≡ d → (b : Bool) → (x.session == s) ≡ b → found s (dropped t xs) ≡ found s xs → found s (cond d (dropped t xs) (x ∷ dropped t xs)) ≡ cond b (Some (x.number, x.stack)) (found s xs)
        here true k true e rest = absurd (true≢false (sym k ∙ h.0 e))
        here true k false e rest = rest
        here false k b e rest = ap (λ c. cond c (Some (x.number, x.stack)) (found s (dropped t xs))) e ∙ ap (λ o. cond b (Some (x.number, x.stack)) o) rest

    found_moved : (xs xs' : List (Transaction y)) → Moved y t xs xs' → AllAre y IsOther xs → found s xs' ≡ found s xs
    found_moved xs xs' moved h = elim moved as (λ _. found s xs' ≡ found s xs) [
      | inl e ↦ ap (found s) e
      | inr v ↦ elim v as (λ _. found s xs' ≡ found s xs) [
        | inl w ↦ ap (found s) w.1 ∙ found_beside w.0 xs h
        | inr e ↦ ap (found s) e ∙ found_left xs h
      ]
    ]

  -- what went back to a savepoint, or found none, leads back to the same tree
  back_leads : (n : Name) (l : List (StackEntry y)) (T : y.State) (k : ℕ) → unwound y (back_to y n l T k).0 (back_to y n l T k).1 ≡ unwound y l T
  back_leads n [] T k = refl
  back_leads n (Did u h c a d f ∷ l) T k = back_leads n l (y.undone d T) (k + 1)
  back_leads n (Savepoint u h m ∷ l) T k = cond_both (same_name m n) _ _ (λ (r : List (StackEntry y) × y.State × Answer). unwound y r.0 r.1 ≡ unwound y l T) (λ _. refl) (λ _. back_leads n l T k)

module _ (y : System) (laws : SystemLaws y) (s t : ℕ) (T : y.State) where
  -- ---- the transaction t of s, which began in the tree T

  -- it is open, and what stands of it leads back to T; no other session has this number
  record IsOpen (m : Machine y) : Type 0 where
    stack : List (StackEntry y)
    stands : found s m.transactions ≡ Some (t, stack)
    leads : unwound y stack m.tree ≡ T
    own : AllAre y (λ s' n. (n == t) ≡ (s' == s)) m.transactions
    before : t ≤ m.begun

  -- it is over, and no other gets its number
  record IsOver (m : Machine y) : Type 0 where
    none : AllAre y (λ s' n. (n == t) ≡ false) m.transactions
    before : t ≤ m.begun

  abbrev Goes : Machine y → Type 0
  Goes m = IsOpen m ⊎ IsOver m

  goes_same : (m n : Machine y) → Same y m n → Goes n → Goes m
  goes_same m n same goes = elim goes as (λ _. Goes m) [
    | inl o ↦ inl (record {
      stack = o.stack;
      stands = ap (found s) same.transactions ∙ o.stands;
      leads = ap (unwound y o.stack) same.tree ∙ o.leads;
      own = subst (AllAre y (λ s' n. (n == t) ≡ (s' == s))) (sym same.transactions) o.own;
      before = subst (λ b. t ≤ b) (sym same.begun) o.before;
    })
    | inr o ↦ inr (record {
      none = subst (AllAre y (λ s' n. (n == t) ≡ false)) (sym same.transactions) o.none;
      before = subst (λ b. t ≤ b) (sym same.begun) o.before;
    })
  ]

  -- ---- its own steps

  module _ (m : Machine y) (o : IsOpen m) where
    -- with another stack and tree
    with_own : (k : List (StackEntry y)) (U : y.State) (a : Answer) → unwound y k U ≡ T → Goes (record m { tree = U; transactions = with_stack t k m.transactions })
    with_own k U a leads = inl (record {
      stack = k;
      stands = found_with y s t k o.stack m.transactions o.stands;
      leads = leads;
      own = all_with_stack y (λ s' n. (n == t) ≡ (s' == s)) t k m.transactions o.own;
      before = o.before;
    })

    -- none has its number without it
    none_left : (xs : List (Transaction y)) → AllAre y (λ s' n. (n == t) ≡ false) (dropped t xs)
    none_left [] = tt
    none_left (x ∷ xs) = cond_both (x.number == t) _ _ (AllAre y (λ s' n. (n == t) ≡ false)) (λ _. none_left xs) (λ e. (e, none_left xs))

    ends : (n : Machine y) → n.transactions ≡ dropped t m.transactions → n.begun ≡ m.begun → Goes n
    ends n left begun = inr (record { none = subst (AllAre y (λ s' n. (n == t) ≡ false)) (sym left) (none_left m.transactions); before = subst (λ b. t ≤ b) (sym begun) o.before })

    own_accepted : (c : y.Command) (e : Attempt y.Change) → y.effect c m.tree ≡ e → Goes (accepted y m t o.stack c e).0
    own_accepted c (Refuse x) e = inl o
    own_accepted c (Accept a d) e = with_own _ (y.done d m.tree) (Begun 0) (ap (unwound y o.stack) (laws.goes_back m.tree c a d e) ∙ o.leads)

    own_done : (c : y.Command) (u : Option ℕ) → Goes (done_unless_held y m t o.stack c u).0
    own_done c (Some u) = inl o
    own_done c None = own_accepted c (y.effect c m.tree) refl

    own_undone : (l : List (StackEntry y)) → unwound y l m.tree ≡ T → Goes (newest_undone y m t l).0
    own_undone [] e = inl o
    own_undone (Savepoint u h n ∷ l) e = inl o
    own_undone (Did u h c a d f ∷ l) e = with_own l (y.undone d m.tree) (Begun 0) e

    own_in : (r : Request y) → Goes (step_in y m t o.stack r).0
    own_in Begin = inl o
    own_in (Do c) = cond_both (is_full_machine m) _ _ (λ (p : Machine y × Answer). Goes p.0) (λ _. inl o) (λ _. own_done c (stack_holder y (y.footprint c m.tree) (dropped t m.transactions)))
    own_in (Save n) =
        cond_both (stack_has_savepoint n o.stack) _ _ (λ (p : Machine y × Answer). Goes p.0) (λ _. inl o)
        (λ _. cond_both (is_full_machine m) _ _ (λ (p : Machine y × Answer). Goes p.0) (λ _. inl o) (λ _. with_own _ m.tree (Begun 0) o.leads))
    own_in (Back n) =
        cond_both (stack_has_savepoint n o.stack) _ _ (λ (p : Machine y × Answer). Goes p.0) (λ _. with_own _ _ (Begun 0) (back_leads y n o.stack m.tree 0 ∙ o.leads)) (λ _. inl o)
    own_in Undo = own_undone o.stack o.leads
    own_in Commit = ends _ refl refl
    own_in Abort = ends _ refl refl

    -- ---- those of other sessions, which leave the tree

    other_out : (s' : ℕ) → (s' == s) ≡ false → (r : Request y) → Goes (step_out y m s' r).0
    other_out s' other Begin = cond_both (is_full_machine m) _ _ (λ (p : Machine y × Answer). Goes p.0) (λ _. inl o) (λ _.
        let le : t ≤ m.begun = o.before in
        let new : (m.begun + 1 == t) ≡ false = false_from_ne_true (m.begun + 1 == t) (λ e. let is : m.begun + 1 ≡ t = eqb-true (m.begun + 1) t e in absurd (omega (arith, is, le))) in
        inl (record {
          stack = o.stack;
          stands = ap (λ b. cond b (Some (m.begun + 1, [])) (found s m.transactions)) other ∙ o.stands;
          leads = o.leads;
          own = (new ∙ sym other, o.own);
          before = omega (arith, le);
        }))
    other_out s' other (Do c) = inl o
    other_out s' other (Save n) = inl o
    other_out s' other (Back n) = inl o
    other_out s' other Undo = inl o
    other_out s' other Commit = inl o
    other_out s' other Abort = inl o

    -- with the same tree, where the transaction u of another session moved
    other_moved : (u : ℕ) (p : Machine y × Answer) → (u == t) ≡ false → p.0.tree ≡ m.tree → Moves y m u p → IsOpen p.0
    other_moved u p other tree moves = record {
      stack = o.stack;
      stands = found_moved y s u m.transactions p.0.transactions moves.transactions (all_own m.transactions o.own) ∙ o.stands;
      leads = ap (unwound y o.stack) tree ∙ o.leads;
      own = all_moved y (λ s' n. (n == t) ≡ (s' == s)) u m.transactions p.0.transactions moves.transactions o.own;
      before = subst (λ b. t ≤ b) (sym moves.begun) o.before;
    }
      where
        apart : (s' n : ℕ) → (n == t) ≡ (s' == s) → (s' == s) ≡ true → (n == u) ≡ false
        apart s' n own same = false_from_ne_true (n == u) (λ e. true≢false (sym (own ∙ same) ∙ ap (λ k. k == t) (eqb-true n u e) ∙ other))

        all_own : (xs : List (Transaction y)) → AllAre y (λ s' n. (n == t) ≡ (s' == s)) xs → AllAre y (IsOther y s u) xs
        all_own [] h = tt
        all_own (x ∷ xs) h = (apart x.session x.number h.0, all_own xs h.1)

  -- ---- after it is over

  over_out : (m : Machine y) → IsOver m → (s' : ℕ) (r : Request y) → IsOver (step_out y m s' r).0
  over_out m v s' Begin = cond_both (is_full_machine m) _ _ (λ (p : Machine y × Answer). IsOver p.0) (λ _. v) (λ _.
      let le : t ≤ m.begun = v.before in
      record {
        none = (false_from_ne_true (m.begun + 1 == t) (λ e. let is : m.begun + 1 ≡ t = eqb-true (m.begun + 1) t e in absurd (omega (arith, is, le))), v.none);
        before = omega (arith, le);
      })
  over_out m v s' (Do c) = v
  over_out m v s' (Save n) = v
  over_out m v s' (Back n) = v
  over_out m v s' Undo = v
  over_out m v s' Commit = v
  over_out m v s' Abort = v

  over_at : (m : Machine y) → IsOver m → (s' : ℕ) (r : Request y) (f : Option (ℕ × List (StackEntry y))) → IsOver (step_at y m s' r f).0
  over_at m v s' r None = over_out m v s' r
  over_at m v s' r (Some p) =
      let moves = moves_in y m p.0 p.1 r in
      record {
        none = all_moved y (λ s' n. (n == t) ≡ false) p.0 m.transactions (step_in y m p.0 p.1 r).0.transactions moves.transactions v.none;
        before = subst (λ b. t ≤ b) (sym moves.begun) v.before;
      }

  -- ---- any step

  open_at : (m : Machine y) (o : IsOpen m) (s' : ℕ) (r : Request y) (f : Option (ℕ × List (StackEntry y))) → found s' m.transactions ≡ f → (s' == s) ≡ false → (step_at y m s' r f).0.tree ≡ m.tree → Goes (step_at y m s' r f).0
  open_at m o s' r None is other tree = other_out m o s' other r
  open_at m o s' r (Some p) is other tree =
      inl (other_moved m o p.0 (step_in y m p.0 p.1 r) (of_found y (λ s' n. (n == t) ≡ (s' == s)) s' m.transactions p.0 p.1 is o.own ∙ other) tree (moves_in y m p.0 p.1 r))

  open_step : (m : Machine y) → IsOpen m → (s' : ℕ) (r : Request y) → (s' ≡ s) ⊎ ((step y m s' r).0.tree ≡ m.tree) → Goes (step y m s' r).0
  open_step m o s' r only = by (s' == s) refl
    where
      own : s' ≡ s → Goes (step y m s' r).0
      own is =
          let there : found s' m.transactions ≡ Some (t, o.stack) = ap (λ k. found k m.transactions) is ∙ o.stands in
          goes_same _ _ (step_same y m s' r (Some (t, o.stack)) there) (own_in m o r)

      by : (b : Bool) → (s' == s) ≡ b → Goes (step y m s' r).0
      by true e = own (eqb-true s' s e)
      by false e = elim only as (λ _. Goes (step y m s' r).0) [
        | inl is ↦ own is
        | inr tree ↦
            let same = step_same y m s' r (found s' m.transactions) refl in
            goes_same _ _ same (open_at m o s' r (found s' m.transactions) refl e (sym same.tree ∙ tree))
      ]

  goes_step : (m : Machine y) → Goes m → (s' : ℕ) (r : Request y) → (s' ≡ s) ⊎ ((step y m s' r).0.tree ≡ m.tree) → Goes (step y m s' r).0
  goes_step m goes s' r only = elim goes as (λ _. Goes (step y m s' r).0) [
    | inl o ↦ open_step m o s' r only
    | inr v ↦ goes_same _ _ (step_same y m s' r (found s' m.transactions) refl) (inr (over_at m v s' r (found s' m.transactions)))
  ]

  goes_on : (ps : List (ℕ × Request y)) (m : Machine y) → Goes m → OnlyChanges y s m ps → Goes (steps y m ps)
  goes_on [] m goes only = goes
  goes_on (p ∷ ps) m goes only = goes_on ps (step y m p.0 p.1).0 (goes_step m goes p.0 p.1 only.0) only.1

  -- ---- its abort

  abbrev aborted_number : Answer → ℕ
  aborted_number (Aborted u) = u
  aborted_number _ = 0

  abbrev is_aborted : Answer → Bool
  is_aborted (Aborted u) = true
  is_aborted _ = false

  not_over : (m : Machine y) → IsOver m → (f : Option (ℕ × List (StackEntry y))) → found s m.transactions ≡ f → (step_at y m s Abort f).1 ≡ Aborted t → ⊥
  not_over m v None is e = true≢false (sym (ap is_aborted e))
  not_over m v (Some p) is e =
      let number : p.0 ≡ t = ap aborted_number e in
      true≢false (sym (eq-eqb p.0 t number) ∙ of_found y (λ s' n. (n == t) ≡ false) s m.transactions p.0 p.1 is v.none)

  gives_back : (m : Machine y) → Goes m → (step y m s Abort).1 ≡ Aborted t → (step y m s Abort).0.tree ≡ T
  gives_back m goes e = elim goes as (λ _. (step y m s Abort).0.tree ≡ T) [
    | inl o ↦ (step_same y m s Abort (Some (t, o.stack)) o.stands).tree ∙ o.leads
    | inr v ↦ absurd (not_over m v (found s m.transactions) refl (sym (step_answer y m s Abort (found s m.transactions) refl) ∙ e))
  ]

-- ---- no open transaction has a number above the count of begins

module _ (y : System) (laws : SystemLaws y) (o : y.State) (bound : ℕ) (rs : List (ℕ × Request y)) (proper : AreProper rs) where
  within_begun : (n : ℕ) (ps : Opens) (log : List (StackEntry y)) → Falls (n + 1) ps → AllAre y (λ s k. k ≤ n) (stacks_of ps log)
  within_begun n [] log f = tt
  within_begun n (p ∷ ps) log f = let low : p.1 < n + 1 = f.0 in (omega (arith, low), within_begun n ps log (falls_more p.1 (n + 1) ps (omega (arith, low)) f.1))

  pub numbers_within : AllAre y (λ s k. k ≤ (steps y (opened y o bound) rs).begun) (steps y (opened y o bound) rs).transactions
  numbers_within = subst (λ (m : Machine y). AllAre y (λ s k. k ≤ m.begun) m.transactions) (steps_are y laws o bound rs proper) (within_begun _ _ _ (falling y o bound rs))

-- ---- from its begin

module _ (y : System) (laws : SystemLaws y) (m : Machine y) (within : AllAre y (λ s n. n ≤ m.begun) m.transactions) (s t : ℕ) where
  abbrev begun_number : Answer → ℕ
  begun_number (Begun u) = u
  begun_number _ = 0

  abbrev is_begun : Answer → Bool
  is_begun (Begun u) = true
  is_begun _ = false

  -- no session of an open transaction is one that has none
  none_found : (xs : List (Transaction y)) → found s xs ≡ None → AllAre y (λ s' n. (s' == s) ≡ false) xs
  none_found [] e = tt
  none_found (x ∷ xs) e = here (x.session == s) refl e (none_found xs)
    where
      here : (b : Bool) → (x.session == s) ≡ b → cond b (Some (x.number, x.stack)) (found s xs) ≡ None → (found s xs ≡ None → AllAre y (λ s' n. (s' == s) ≡ false) xs) → ((x.session == s) ≡ false) × AllAre y (λ s' n. (s' == s) ≡ false) xs
      here true k e rest = absurd (true≢false (ap is_some e))
      here false k e rest = (k, rest e)

  own_among : m.begun + 1 ≡ t → (xs : List (Transaction y)) → AllAre y (λ s n. n ≤ m.begun) xs → AllAre y (λ s' n. (s' == s) ≡ false) xs → AllAre y (λ s' n. (n == t) ≡ (s' == s)) xs
  own_among new [] le none = tt
  own_among new (x ∷ xs) le none =
      let low : x.number ≤ m.begun = le.0 in
      (false_from_ne_true (x.number == t) (λ e. let is : x.number ≡ t = eqb-true x.number t e in absurd (omega (arith, is, low, new))) ∙ sym none.0, own_among new xs le.1 none.1)

  abbrev with_new : Machine y
  with_new = record m { transactions = record { session = s; number = m.begun + 1; stack = [] } ∷ m.transactions; begun = m.begun + 1 }

  begun_at : (f : Option (ℕ × List (StackEntry y))) → found s m.transactions ≡ f → (step_at y m s Begin f).1 ≡ Begun t → IsOpen y laws s t m.tree (step_at y m s Begin f).0
  begun_at (Some p) is e = absurd (true≢false (sym (ap is_begun e)))
  begun_at None is e = by (is_full_machine m) e
    where
      with_or : Bool → Machine y × Answer
      with_or b = cond b (m, Refused Full) (with_new, Begun (m.begun + 1))

      by : (b : Bool) → (with_or b).1 ≡ Begun t → IsOpen y laws s t m.tree (with_or b).0
      by true e = absurd (true≢false (sym (ap is_begun e)))
      by false e =
          let new : m.begun + 1 ≡ t = ap begun_number e in
          record {
            stack = [];
            stands = ap (λ b. cond b (Some (m.begun + 1, [])) (found s m.transactions)) (eq-eqb s s refl) ∙ (λ i. Some (new i, []));
            leads = refl;
            own = (eq-eqb (m.begun + 1) t new ∙ sym (eq-eqb s s refl), own_among new m.transactions within (none_found m.transactions is));
            before = omega (arith, new);
          }

  pub restores : (between : List (ℕ × Request y)) → (step y m s Begin).1 ≡ Begun t → OnlyChanges y s (step y m s Begin).0 between
      → (step y (steps y (step y m s Begin).0 between) s Abort).1 ≡ Aborted t → (step y (steps y (step y m s Begin).0 between) s Abort).0.tree ≡ m.tree
  restores between begins only aborts =
      let f = found s m.transactions in
      let at : IsOpen y laws s t m.tree (step_at y m s Begin f).0 = begun_at f refl (sym (step_answer y m s Begin f refl) ∙ begins) in
      let first : Goes y laws s t m.tree (step y m s Begin).0 = goes_same y laws s t m.tree _ _ (step_same y m s Begin f refl) (inl at) in
      gives_back y laws s t m.tree (steps y (step y m s Begin).0 between) (goes_on y laws s t m.tree between (step y m s Begin).0 first only) aborts
