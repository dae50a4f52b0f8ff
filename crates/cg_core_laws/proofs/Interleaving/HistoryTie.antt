-- What ties the machine with a log to its history: its stacks, what stands, its counts and what was committed are those
-- that the history says.
use Rattle.std.proofs.Common.{◌≡◌, ℕ, suc, ◌<◌, Bool, true, false, List, [], ◌∷◌, ◌++◌, length, ◌==◌, refl, sym, ap, ◌∙◌, arith}
use Rattle.std.proofs.lemmas.Bool.{eqb-true, eq-eqb, false_from_ne_true}
use Rattle.std.specs.Prelude.{cond}
use Rattle.std.specs.Cmp.{nat_eq_equiv}
use Rattle.cg_model.specs.System.{System, Accept}
use Rattle.cg_model.specs.History.{Record, History}
use Rattle.cg_model.specs.Opens.{opens, begins, commits}
use Rattle.cg_model.specs.Live.{Item, Items, live_after, live, position, stands, item_of, joined_if, selected, survivors, committed}
use Rattle.cg_model.specs.Run.{state_after, run_items, Accepted}
use Rattle.cg_model.specs.Machine.{StackEntry, Did, Savepoint}
pub use Rattle.cg_core_laws.specs.Stacks.{as_item, as_items, StackEntriesTrue}
use Rattle.cg_core_laws.proofs.Interleaving.RunsOfStackEntries.{owner, Runs, state, only, skip, cut}
use Rattle.cg_core_laws.proofs.Interleaving.LogMachine.{Log}
use Rattle.cg_core_laws.proofs.Interleaving.TakingOff.{cut_keep, cut_own}
use Rattle.cg_core_laws.proofs.Interleaving.SelectedRecords.{transaction_of, items_only, items_cut, Down, down_live, down_none, down_behind, selected_same, selected_pop}

-- the stacks of a history, but t's is l
abbrev pub over : {y : System} → ℕ → Items y → History y → ℕ → Items y
over t l h u = cond (u == t) l (live u h)

pub record Tied (y : System) (o : y.State) (c : Log y) : Type 0 where
  pub lives : (u : ℕ) → as_items (only u c.log) ≡ live u c.history
  pub stands : as_items c.log ≡ survivors c.history
  pub opens : c.opens ≡ opens c.history
  pub begun : c.begun ≡ begins c.history
  pub commits : c.commits ≡ commits c.history
  pub done : as_items c.done ≡ committed c.history
  pub entries_true : StackEntriesTrue y o c.log

-- the log, where t's stack is l and the other stacks are those of the history
pub record Midway (y : System) (o : y.State) (t : ℕ) (h : History y) (log : List (StackEntry y)) (l : Items y) : Type 0 where
  pub own : as_items (only t log) ≡ l
  pub other : (u : ℕ) → (u == t) ≡ false → as_items (only u log) ≡ live u h
  pub selection : selected (over t l h) h ≡ as_items log
  pub down : Down (length h) l
  pub entries_true : StackEntriesTrue y o log

module _ (y : System) (o : y.State) where
  pub owner_as_item : (x : StackEntry y) → transaction_of (as_item x) ≡ owner x
  owner_as_item (Did t h c a d f) = refl
  owner_as_item (Savepoint t h n) = refl

  pub as_items_put : (b : Bool) (x : StackEntry y) (l : List (StackEntry y)) → as_items (joined_if b x l) ≡ joined_if b (as_item x) (as_items l)
  as_items_put true x l = refl
  as_items_put false x l = refl

  as_items_skip : (b : Bool) (x : StackEntry y) (l r : List (StackEntry y)) → as_items (skip b x l r) ≡ skip b (as_item x) (as_items l) (as_items r)
  as_items_skip true x l r = refl
  as_items_skip false x l r = refl

  pub as_items_only : (t : ℕ) (a : List (StackEntry y)) → as_items (only t a) ≡ items_only t (as_items a)
  as_items_only t [] = refl
  as_items_only t (x ∷ a) = rw owner_as_item (as_items_put (owner x == t) x (only t a) ∙ ap (joined_if (owner x == t) (as_item x)) (as_items_only t a))

  pub as_items_cut : (t : ℕ) (a : List (StackEntry y)) → as_items (cut t a) ≡ items_cut t (as_items a)
  as_items_cut t [] = refl
  as_items_cut t (x ∷ a) = rw owner_as_item (as_items_skip (owner x == t) x a (cut t a) ∙ ap (skip (owner x == t) (as_item x) (as_items a)) (as_items_cut t a))

  pub as_items_append : (a b : List (StackEntry y)) → as_items (a ++ b) ≡ as_items a ++ as_items b
  as_items_append [] b = refl
  as_items_append (x ∷ a) b = ap (λ l. as_item x ∷ l) (as_items_append a b)

  pub length_as_items : (a : List (StackEntry y)) → length (as_items a) ≡ length a
  length_as_items [] = refl
  length_as_items (x ∷ a) = ap suc (length_as_items a)

  pub entries_true_one : (x : StackEntry y) (a : List (StackEntry y)) → StackEntriesTrue y o (x ∷ a) → StackEntriesTrue y o a
  entries_true_one (Did t h c a' d f) a m = m.2
  entries_true_one (Savepoint t h n) a m = m

  entries_true_put : (x : StackEntry y) (a a' : List (StackEntry y)) → StackEntriesTrue y o (x ∷ a) → StackEntriesTrue y o a' → StackEntriesTrue y o (x ∷ a')
  entries_true_put (Did t h c a1 d f) a a' m n = (m.0, m.1, n)
  entries_true_put (Savepoint t h n1) a a' m n = n

  entries_true_cut_step : (t : ℕ) (x : StackEntry y) (a : List (StackEntry y)) (b : Bool) → StackEntriesTrue y o (x ∷ a) → StackEntriesTrue y o (cut t a) → StackEntriesTrue y o (skip b x a (cut t a))
  entries_true_cut_step t x a true m n = entries_true_one x a m
  entries_true_cut_step t x a false m n = entries_true_put x a (cut t a) m n

  pub entries_true_cut : (t : ℕ) (a : List (StackEntry y)) → StackEntriesTrue y o a → StackEntriesTrue y o (cut t a)
  entries_true_cut t [] m = m
  entries_true_cut t (x ∷ a) m = entries_true_cut_step t x a (owner x == t) m (entries_true_cut t a (entries_true_one x a m))

  entries_true_only_step : (t : ℕ) (x : StackEntry y) (a : List (StackEntry y)) (b : Bool) → StackEntriesTrue y o (x ∷ a) → StackEntriesTrue y o (only t a) → StackEntriesTrue y o (joined_if b x (only t a))
  entries_true_only_step t x a true m n = entries_true_put x a (only t a) m n
  entries_true_only_step t x a false m n = n

  pub entries_true_only : (t : ℕ) (a : List (StackEntry y)) → StackEntriesTrue y o a → StackEntriesTrue y o (only t a)
  entries_true_only t [] m = m
  entries_true_only t (x ∷ a) m = entries_true_only_step t x a (owner x == t) m (entries_true_only t a (entries_true_one x a m))

  -- the run of the as_items is the state
  pub ran : (a : List (StackEntry y)) → Runs y o a → (run_items y o (as_items a) ≡ state y o a) × Accepted y o (as_items a)
  ran [] r = (refl, tt)
  ran (Did t h c a d f ∷ l) r =
      let p = ran l r.1 in
      let e : y.effect c (run_items y o (as_items l)) ≡ Accept a d = ap (y.effect c) p.0 ∙ r.0.1 in
      (ap (λ x. state_after y x (run_items y o (as_items l))) e ∙ ap (y.done d) p.0, ((d, e), p.1))
  ran (Savepoint t h n ∷ l) r = ran l r.1

  over_same : (t u : ℕ) (l : Items y) (h : History y) (b : Bool) → (u == t) ≡ b → l ≡ live t h → cond b l (live u h) ≡ live u h
  over_same t u l h true k e = e ∙ ap (λ v. live v h) (sym (eqb-true u t k))
  over_same t u l h false k e = refl

  pub midway_start : (c : Log y) (t : ℕ) → Tied y o c → Midway y o t c.history c.log (live t c.history)
  midway_start c t k = record {
    own = k.lives t;
    other = λ u n. k.lives u;
    selection = selected_same y (length c.history) (λ u. live u c.history) (over t (live t c.history) c.history) (λ u p lt. ap (stands p) (over_same t u (live t c.history) c.history (u == t) refl refl)) c.history (omega arith) ∙ sym k.stands;
    down = down_live y t c.history;
    entries_true = k.entries_true;
  }

  pub midway_pop : (t : ℕ) (h : History y) (log : List (StackEntry y)) (x : StackEntry y) (rs : List (StackEntry y)) (l : Items y) → Midway y o t h log (as_item x ∷ l) → only t log ≡ x ∷ rs → Midway y o t h (cut t log) l
  midway_pop t h log x rs l m e =
      let top : as_items (x ∷ rs) ≡ as_item x ∷ l = sym (ap as_items e) ∙ m.own in
      let tail : as_items rs ≡ l = cc top in
      let seen : items_only t (selected (over t (as_item x ∷ l) h) h) ≡ as_item x ∷ l = ap (items_only t) m.selection ∙ sym (as_items_only t log) ∙ m.own in
      let at : (t == t) ≡ true = eq-eqb t t refl in
      record {
        own = ap as_items (cut_own y t x log rs e) ∙ tail;
        other = λ u n. ap as_items (cut_keep y t (λ v. v == u) log (nat_eq_equiv.symm t u ∙ n)) ∙ m.other u n;
        selection = selected_pop y t (as_item x) l (over t (as_item x ∷ l) h) (over t l h) (rw at) (rw at) (λ u n. rw n) (down_none y (position (as_item x)) (position (as_item x)) l m.down.1 (omega arith)) h l seen ∙ ap (items_cut t) m.selection ∙ sym (as_items_cut t log);
        down = down_behind y (length h) (as_item x) l m.down;
        entries_true = entries_true_cut t log m.entries_true;
      }

  -- the stacks after one more record of t that leaves t's stack at l
  after_over : (r : Record y) (h : History y) (l : Items y) (u : ℕ) (b : Bool) → (r.transaction == u) ≡ b → (u == r.transaction) ≡ b → live_after r.request r.answer r.transaction h (live r.transaction h) ≡ l → live u (r ∷ h) ≡ over r.transaction l h u
  after_over r h l u true k n e = rw (k, n) (ap (λ v. live_after r.request r.answer r.transaction h (live v h)) (sym (eqb-true r.transaction u k)) ∙ e)
  after_over r h l u false k n e = rw (k, n)

  midway_lives : (r : Record y) (h : History y) (log : List (StackEntry y)) (l : Items y) (u : ℕ) (b : Bool) → Midway y o r.transaction h log l → (u == r.transaction) ≡ b → as_items (only u log) ≡ over r.transaction l h u
  midway_lives r h log l u true m k = rw k (ap (λ v. as_items (only v log)) (eqb-true u r.transaction k) ∙ m.own)
  midway_lives r h log l u false m k = rw k (m.other u k)

  -- one more record, after pops or none
  pub midway_end : (r : Record y) (h : History y) (log : List (StackEntry y)) (l : Items y) → Midway y o r.transaction h log l → live_after r.request r.answer r.transaction h (live r.transaction h) ≡ l → ((u : ℕ) → as_items (only u log) ≡ live u (r ∷ h)) × (as_items log ≡ survivors (r ∷ h))
  midway_end r h log l m e =
      let to : (u : ℕ) → live u (r ∷ h) ≡ over r.transaction l h u = λ u. after_over r h l u (r.transaction == u) refl (nat_eq_equiv.symm u r.transaction) e in
      let at : (r.transaction == r.transaction) ≡ true = eq-eqb r.transaction r.transaction refl in
      let none : stands (length h) (live r.transaction (r ∷ h)) ≡ false = ap (stands (length h)) (to r.transaction) ∙ (rw at (down_none y (length h) (length h) l m.down (omega arith))) in (
        (λ u. midway_lives r h log l u (u == r.transaction) m refl ∙ sym (to u)),
        sym (rw none (selected_same y (length h) (over r.transaction l h) (λ u. live u (r ∷ h)) (λ u p lt. ap (stands p) (to u)) h (omega arith) ∙ m.selection)),
      )

  push_stands : (b : Bool) (u p : ℕ) (x : Item y) (h : History y) → position x ≡ length h → p < length h → stands p (cond b (x ∷ live u h) (live u h)) ≡ stands p (live u h)
  push_stands true u p x h px lt = let e : (position x == p) ≡ false = false_from_ne_true (position x == p) (λ k. let q = eqb-true (position x) p k in omega arith) in rw e
  push_stands false u p x h px lt = refl

  push_lives : (b : Bool) (x : StackEntry y) (u : ℕ) (log : List (StackEntry y)) (h : History y) → as_items (only u log) ≡ live u h → as_items (joined_if b x (only u log)) ≡ cond b (as_item x ∷ live u h) (live u h)
  push_lives true x u log h e = ap (λ l. as_item x ∷ l) e
  push_lives false x u log h e = e

  -- one more record, that pushes x
  pub push_end : (r : Record y) (c : Log y) (x : StackEntry y) → Tied y o c → owner x ≡ r.transaction → position (as_item x) ≡ length c.history → item_of r.request r.answer r.transaction c.history ≡ as_item x → ((l : Items y) → live_after r.request r.answer r.transaction c.history l ≡ as_item x ∷ l) → ((u : ℕ) → as_items (only u (x ∷ c.log)) ≡ live u (r ∷ c.history)) × (as_items (x ∷ c.log) ≡ survivors (r ∷ c.history))
  push_end r c x k ox px sx la =
      let h = c.history in
      let to : (u : ℕ) → live u (r ∷ h) ≡ cond (r.transaction == u) (as_item x ∷ live u h) (live u h) = λ u. ap (λ l. cond (r.transaction == u) l (live u h)) (la (live u h)) in
      let at : (r.transaction == r.transaction) ≡ true = eq-eqb r.transaction r.transaction refl in
      let on : (position (as_item x) == length h) ≡ true = eq-eqb (position (as_item x)) (length h) px in
      let yes : stands (length h) (live r.transaction (r ∷ h)) ≡ true = ap (stands (length h)) (to r.transaction) ∙ (rw (at, on)) in (
        (λ u. rw ox (push_lives (r.transaction == u) x u c.log h (k.lives u)) ∙ sym (to u)),
        sym (rw (yes, sx) (ap (λ l. as_item x ∷ l) (selected_same y (length h) (λ u. live u h) (λ u. live u (r ∷ h)) (λ u p lt. ap (stands p) (to u) ∙ push_stands (r.transaction == u) u p (as_item x) h px lt) h (omega arith) ∙ sym k.stands))),
      )
