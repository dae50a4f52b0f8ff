-- Each step of the machine with a log leaves it tied to its history.
use Rattle.std.proofs.Common.{◌≡◌, ℕ, ◌+◌, ◌||◌, Bool, true, false, cond, List, [], ◌∷◌, ◌++◌, drop, Option, Some, None, refl, sym, ap, ◌∙◌, subst}
use Rattle.std.proofs.lemmas.Bool.{cond_both}
use Rattle.cg_name.specs.Name.{Name, same_name}
use Rattle.cg_name.specs.declared.refusal.Refusal.{Refusal}
use Rattle.cg_name.specs.declared.refusal.Refusal.TheVariants.{Full, Busy, NoSavepoint, NameTaken}
use Rattle.cg_model.specs.System.{System, Done, Attempt, Refuse, Accept}
use Rattle.cg_model.specs.History.{Request, Begin, Do, Save, Back, Undo, Commit, Abort, Answer, Begun, Gave, Saved, WentBack, Committed, Aborted, Refused, Record, History, is_recorded}
use Rattle.cg_model.specs.Opens.{without, transaction_in, opens_after, begins_after, commits_after}
use Rattle.cg_model.specs.Live.{Items, below, live_after, live, survivors, committed_after}
use Rattle.cg_model.specs.Reply.{commands_above}
use Rattle.cg_model.specs.Machine.{StackEntry, Did, Savepoint, stack_has_savepoint}
use Rattle.cg_core_laws.proofs.Interleaving.SystemLaws.{SystemLaws}
use Rattle.cg_core_laws.proofs.Interleaving.RunsOfStackEntries.{only}
use Rattle.cg_core_laws.proofs.Interleaving.LogMachine.{Log, log_opened, log_holder, pop, pop_all, log_back_to, try_do, do_at, undo_at, others, is_full_log, log_step_in, log_step_out, log_step_at, log_noted, log_step}
use Rattle.cg_core_laws.proofs.Interleaving.StepsWithoutTransaction.{with_begun, of_out}
use Rattle.cg_core_laws.proofs.Interleaving.TakingOff.{cut_own}
use Rattle.cg_core_laws.proofs.Interleaving.LogInvariant.{Kept}
use Rattle.cg_core_laws.proofs.Interleaving.UnchangedBySteps.{unchanged_all, unchanged_back}
use Rattle.cg_core_laws.proofs.Interleaving.HistoryTie.{as_items, StackEntriesTrue, Tied, Midway, as_items_append, midway_start, midway_pop, midway_end, push_end}
use Rattle.cg_core_laws.proofs.Interleaving.UnrecordedSteps.{back_answer}
use Rattle.cg_core_laws.proofs.Interleaving.AnswersAreReplies.{tree_is}

module _ (y : System) (laws : SystemLaws y) (o : y.State) where
  abbrev record_of : ℕ → ℕ → Request y → Answer → Record y
  record_of s t r a = record { session = s; transaction = t; request = r; answer = a }

  -- one more record, where each part is what the record makes of it
  tie : (c c' : Log y) (s t : ℕ) (r : Request y) (a : Answer) → Tied y o c → c'.history ≡ c.history → ((u : ℕ) → as_items (only u c'.log) ≡ live u (record_of s t r a ∷ c.history)) × (as_items c'.log ≡ survivors (record_of s t r a ∷ c.history)) → StackEntriesTrue y o c'.log → c'.opens ≡ opens_after a s t c.opens → c'.begun ≡ begins_after a c.begun → c'.commits ≡ commits_after a c.commits → as_items c'.done ≡ committed_after a (live t c.history) (as_items c.done) → Tied y o (record c' { history = record_of s t r a ∷ c'.history })
  tie c c' s t r a d history both entries_true opens begun commits done =
      let new : Tied y o (record c' { history = record_of s t r a ∷ c.history }) = record {
        lives = both.0;
        stands = both.1;
        opens = opens ∙ ap (opens_after a s t) d.opens;
        begun = begun ∙ ap (begins_after a) d.begun;
        commits = commits ∙ ap (commits_after a) d.commits;
        done = done ∙ ap (committed_after a (live t c.history)) d.done;
        entries_true = entries_true;
      } in
      subst (λ g. Tied y o (record c' { history = record_of s t r a ∷ g })) (sym history) new

  -- what a step gives, with its record
  abbrev TiedWith : ℕ → Request y → Option ℕ → Log y × Answer → Type 0
  TiedWith s r h p = Tied y o (log_noted (is_recorded r p.1) s r h p).0

  abbrev TiedStep : ℕ → Request y → ℕ → Log y × Answer → Type 0
  TiedStep s r t p = TiedWith s r (Some t) p

  -- where t's stack is l after it
  tie_in : (c c' : Log y) (s t : ℕ) (r : Request y) (a : Answer) (l : Items y) → Tied y o c → c'.history ≡ c.history → Midway y o t c.history c'.log l → live_after r a t c.history (live t c.history) ≡ l → c'.opens ≡ opens_after a s t c.opens → c'.begun ≡ begins_after a c.begun → c'.commits ≡ commits_after a c.commits → as_items c'.done ≡ committed_after a (live t c.history) (as_items c.done) → Tied y o (record c' { history = record_of s t r a ∷ c'.history })
  tie_in c c' s t r a l d history m e = tie c c' s t r a d history (midway_end y o (record_of s t r a) c.history c'.log l m e) m.entries_true

  -- a command that is refused, recorded or not
  refused_tied : (c : Log y) (s t : ℕ) (b : y.Command) (x : Refusal) (recorded : Bool) → Tied y o c → Tied y o (log_noted recorded s (Do b) (Some t) (c, Refused x)).0
  refused_tied c s t b x true d = tie_in c c s t (Do b) (Refused x) (live t c.history) d refl (midway_start y o c t d) refl refl refl refl refl
  refused_tied c s t b x false d = d

  try_tied : (c : Log y) (s t : ℕ) (b : y.Command) (r : Attempt y.Change) → y.effect b c.tree ≡ r → Kept y o c → Tied y o c → TiedStep s (Do b) t (try_do y c t b r)
  try_tied c s t b (Accept a x) e k d =
      let c' : Log y = (try_do y c t b (Accept a x)).0 in
      let same = tree_is y laws o c k d in
      tie c c' s t (Do b) (Gave a) d refl (push_end y o (record_of s t (Do b) (Gave a)) c (Did t c.history b a x (y.footprint b c.tree)) d refl refl refl (λ l. refl))
      (ap (y.footprint b) same, sym (ap (y.effect b) same) ∙ e, d.entries_true) refl refl refl refl
  try_tied c s t b (Refuse x) e k d = refused_tied c s t b x (is_recorded {y = y} (Do b) (Refused x)) d

  do_tied : (c : Log y) (s t : ℕ) (b : y.Command) (h : Option ℕ) → Kept y o c → Tied y o c → TiedStep s (Do b) t (do_at y c t b h)
  do_tied c s t b (Some u) k d = refused_tied c s t b (Busy (record { 0 = u })) true d
  do_tied c s t b None k d = try_tied c s t b (y.effect b c.tree) refl k d

  save_tied : (c : Log y) (s t : ℕ) (n : Name) → Tied y o c → TiedStep s (Save n) t (record c { log = Savepoint t c.history n ∷ c.log }, Saved)
  save_tied c s t n d =
      tie c (record c { log = Savepoint t c.history n ∷ c.log }) s t (Save n) Saved d refl (push_end y o (record_of s t (Save n) Saved) c (Savepoint t c.history n) d refl refl refl (λ l. refl)) d.entries_true refl refl refl refl

  midway_as : (c : Log y) (t : ℕ) (l : List (StackEntry y)) → Tied y o c → only t c.log ≡ l → Midway y o t c.history c.log (as_items l)
  midway_as c t l d e = subst (Midway y o t c.history c.log) (sym (d.lives t) ∙ ap as_items e) (midway_start y o c t d)

  undo_tied : (c : Log y) (s t : ℕ) (l : List (StackEntry y)) → Tied y o c → only t c.log ≡ l → TiedStep s Undo t (undo_at y c t l)
  undo_tied c s t [] d m = d
  undo_tied c s t (Savepoint u h n ∷ l) d m = d
  undo_tied c s t (Did u h b a x f ∷ l) d m =
      tie_in c (pop y c t (Did u h b a x f)) s t Undo (Gave Done) (as_items l) d refl (midway_pop y o t c.history c.log (Did u h b a x f) l (as_items l) (midway_as c t _ d m) m) (ap (drop 1) (sym (d.lives t) ∙ ap as_items m)) refl refl refl refl

  -- all pops
  all_midway : (t : ℕ) (h : History y) (l : List (StackEntry y)) (c : Log y) → Midway y o t h c.log (as_items l) → only t c.log ≡ l → Midway y o t h (pop_all y t l c).log []
  all_midway t h [] c m e = m
  all_midway t h (x ∷ l) c m e = all_midway t h l (pop y c t x) (midway_pop y o t h c.log x l (as_items l) m e) (cut_own y t x c.log l e)

  back_midway_cond : (t k : ℕ) (h : History y) (b m : Bool) (c : Log y) (p : Log y × Answer) (l r : Items y) → (b || m) ≡ true → Midway y o t h c.log l → (m ≡ true → Midway y o t h p.0.log r) → Midway y o t h (cond b (c, WentBack k) p).0.log (cond b l r)
  back_midway_cond t k h true m c p l r e i j = i
  back_midway_cond t k h false m c p l r e i j = j e

  back_midway : (t : ℕ) (n : Name) (h : History y) (l : List (StackEntry y)) (c : Log y) (k : ℕ) → Midway y o t h c.log (as_items l) → only t c.log ≡ l → stack_has_savepoint n l ≡ true → Midway y o t h (log_back_to y t n l c k).0.log (below n (as_items l))
  back_midway t n h [] c k m e w = absurd (cc w)
  back_midway t n h (Did u uh b a d f ∷ l) c k m e w =
      let x : StackEntry y = Did u uh b a d f in
      back_midway t n h l (pop y c t x) (k + 1) (midway_pop y o t h c.log x l (as_items l) m e) (cut_own y t x c.log l e) w
  back_midway t n h (Savepoint u uh j ∷ l) c k m e w =
      let x : StackEntry y = Savepoint u uh j in
      let i = midway_pop y o t h c.log x l (as_items l) m e in
      back_midway_cond t k h (same_name j n) (stack_has_savepoint n l) (pop y c t x) _ (as_items l) (below n (as_items l)) w i
      (λ v. back_midway t n h l (pop y c t x) k i (cut_own y t x c.log l e) v)

  back_tied : (c : Log y) (s t : ℕ) (n : Name) (b : Bool) → stack_has_savepoint n (only t c.log) ≡ b → Tied y o c → TiedStep s (Back n) t (cond b (log_back_to y t n (only t c.log) c 0) (c, Refused NoSavepoint))
  back_tied c s t n false h d = d
  back_tied c s t n true h d =
      let p = log_back_to y t n (only t c.log) c 0 in
      let j = commands_above n 0 (as_items (only t c.log)) in
      let a : p.1 ≡ WentBack j = back_answer y t n (only t c.log) c 0 h in
      let m = back_midway t n c.history (only t c.log) c 0 (midway_as c t _ d refl) refl h in
      let u = unchanged_back y t n (only t c.log) c 0 in
      subst (λ (x : Answer). TiedStep s (Back n) t (p.0, x)) (sym a)
      (tie_in c p.0 s t (Back n) (WentBack j) (below n (as_items (only t c.log))) d u.history m (ap (below n) (sym (d.lives t))) u.opens u.begun u.commits (ap as_items u.done))

  in_tied : (c : Log y) (s t : ℕ) (r : Request y) → Kept y o c → Tied y o c → TiedStep s r t (log_step_in y c s t r)
  in_tied c s t Begin k d = d
  in_tied c s t (Do b) k d = cond_both (is_full_log c) (c, Refused Full) _ (TiedStep s (Do b) t) (λ _. d) (λ _. do_tied c s t b (log_holder y (y.footprint b c.tree) c.log (others y c t)) k d)
  in_tied c s t (Save n) k d =
      cond_both (stack_has_savepoint n (only t c.log)) (c, Refused NameTaken) _ (TiedStep s (Save n) t) (λ _. d)
      (λ _. cond_both (is_full_log c) (c, Refused Full) _ (TiedStep s (Save n) t) (λ _. d) (λ _. save_tied c s t n d))
  in_tied c s t (Back n) k d = back_tied c s t n (stack_has_savepoint n (only t c.log)) refl d
  in_tied c s t Undo k d = undo_tied c s t (only t c.log) d refl
  in_tied c s t Commit k d =
      tie_in c (log_step_in y c s t Commit).0 s t Commit (Committed (c.commits + 1)) (live t c.history) d refl (midway_start y o c t d) refl refl refl refl (as_items_append y o (only t c.log) c.done ∙ ap (λ l. l ++ as_items c.done) (d.lives t))
  in_tied c s t Abort k d =
      let m = all_midway t c.history (only t c.log) c (midway_as c t _ d refl) refl in
      let u = unchanged_all y t (only t c.log) c in
      tie_in c (log_step_in y c s t Abort).0 s t Abort (Aborted t) [] d u.history m refl (ap (without t) u.opens) u.begun u.commits (ap as_items u.done)

  begin_tied : (c : Log y) (s : ℕ) → Tied y o c → TiedWith s Begin None (with_begun y c s, Begun (c.begun + 1))
  begin_tied c s d = tie_in c (with_begun y c s) s (c.begun + 1) Begin (Begun (c.begun + 1)) (live (c.begun + 1) c.history) d refl (midway_start y o c (c.begun + 1) d) refl refl refl refl refl

  out_tied : (c : Log y) (s : ℕ) (r : Request y) → Tied y o c → TiedWith s r None (log_step_out y c s r)
  out_tied c s r d =
      of_out y (λ q p. TiedWith s q None p) c s (λ q x e. subst (λ b. Tied y o (log_noted b s q None (c, Refused x)).0) (sym e) d) (λ _. begin_tied c s d) r

  at_tied : (c : Log y) (s : ℕ) (r : Request y) (h : Option ℕ) → Kept y o c → Tied y o c → TiedWith s r h (log_step_at y c s r h)
  at_tied c s r (Some t) k d = in_tied c s t r k d
  at_tied c s r None k d = out_tied c s r d

  pub step_tied : (c : Log y) (s : ℕ) (r : Request y) → Kept y o c → Tied y o c → Tied y o (log_step y c s r).0
  step_tied c s r k d = at_tied c s r (transaction_in s c.opens) k d

  pub start_tied : (bound : ℕ) → Tied y o (log_opened y o bound)
  start_tied bound = record { lives = λ u. refl; stands = refl; opens = refl; begun = refl; commits = refl; done = refl; entries_true = tt }
