-- The main theorem, of the machine with a log, from what every step keeps: the tree, the orders in which what stands may run
-- again, a transaction's own tree, the answers to commands, and the unwinding of open transactions.
use Rattle.std.proofs.Common.{◌≡◌, ℕ, Bool, true, false, List, [], ◌∷◌, ◌++◌, ◌||◌, not, Option, Some, None, refl, sym, ap, ◌∙◌, subst}
use Rattle.std.specs.List.{AllByRecursion}
use Rattle.cg_model.specs.System.{System, Attempt, Refuse, Accept}
use Rattle.cg_model.specs.History.{Request, Answer, is_recorded}
use Rattle.cg_model.specs.Opens.{Opens, numbers, among, without}
use Rattle.cg_model.specs.Reply.{attempt_reply, command_reply}
use Rattle.cg_model.specs.Machine.{StackEntry}
use Rattle.cg_core_laws.specs.Serial.{OnceEach}
use Rattle.cg_core_laws.proofs.Interleaving.SystemLaws.{SystemLaws, Alike}
use Rattle.cg_core_laws.proofs.Interleaving.RunsOfStackEntries.{state, Runs, keep, only, Apart, Same, blocks}
use Rattle.cg_core_laws.proofs.Interleaving.LogMachine.{Log, log_holder, pop, try_do, do_at, others, log_noted, log_note}
use Rattle.cg_core_laws.proofs.Interleaving.Gathering.{sound_state, canon}
use Rattle.cg_core_laws.proofs.Interleaving.TakingOff.{keep_all}
use Rattle.cg_core_laws.proofs.Interleaving.AnswersInParts.{own_blocks, runs_under}
use Rattle.cg_core_laws.proofs.Interleaving.OpenTransactions.{closed, still_open, once_without}
pub use Rattle.cg_core_laws.proofs.Interleaving.LogInvariant.{FitsNow, Kept, pop_kept}
use Rattle.cg_core_laws.proofs.Interleaving.LogInvariantKept.{holder_none, passes, as_committed}

-- the tree in which t's own commands come right after the committed ones
abbrev pub own_state : (y : System) → y.State → Log y → ℕ → y.State
own_state y o c t = state y o (only t c.log ++ c.done)

-- the newest stack entry of t is taken off, and what is asked of the rest holds then; its inverse fits
abbrev pub LogTakenOff : (y : System) → Log y → ℕ → List (StackEntry y) → (Log y → Type 0) → Type 0
LogTakenOff y c t [] Rest = Rest c
LogTakenOff y c t (x ∷ l) Rest = FitsNow y x c.tree × Rest (pop y c t x)

-- the transactions of a list are unwound in this order, each time by the newest stack entry: every tree is sound, and every
-- inverse fits when its turn comes
abbrev pub LogUnwinds : (y : System) → Log y → List ℕ → Type 0
LogUnwinds y c [] = y.Sound c.tree
LogUnwinds y c (t ∷ ts) = y.Sound c.tree × LogTakenOff y c t (only t c.log) (λ c'. LogUnwinds y c' ts)

or_not : (b c : Bool) → b ≡ c → (b || not c) ≡ true
or_not true c e = refl
or_not false true e = absurd (cc e)
or_not false false e = refl

module _ (y : System) (laws : SystemLaws y) (o : y.State) where
  -- every order of these transactions
  pub in_order : (ps : Opens) (a done : List (StackEntry y)) (os : List ℕ) → ((t : ℕ) → among t (numbers ps) ≡ true → Apart y t a) → Same y o (keep (closed ps) a) done → OnceEach os → ((u : ℕ) → among u os ≡ among u (numbers ps)) → Same y o a (blocks os a done)
  in_order ps a done os apart h once same =
      let all = keep_all y (λ u. among u os || closed ps u) a (passes (λ u. among u os || closed ps u) a (λ u. or_not (among u os) (among u (numbers ps)) (same u))) in
      subst (λ l. Same y o l (blocks os a done)) all (canon y laws o (closed ps) a done os once (λ t m. let n : among t (numbers ps) ≡ true = sym (same t) ∙ m in (ap not n, apart t n)) h)

  -- the tree is sound
  pub kept_sound : y.Sound o → (c : Log y) → Kept y o c → y.Sound c.tree
  kept_sound sound c k = subst y.Sound (sym k.tree) (sound_state y laws o sound c.log k.runs)

  -- the committed transactions whole in commit order, and then the open ones in any order, are accepted with the same
  -- answers, and give the tree
  pub kept_orders : (c : Log y) (ts : List ℕ) → Kept y o c → OnceEach ts → ((u : ℕ) → among u ts ≡ among u (numbers c.opens)) → Runs y o (blocks ts c.log c.done) × (state y o (blocks ts c.log c.done) ≡ c.tree)
  kept_orders c ts k once same =
      let p = (in_order c.opens c.log c.done ts k.apart k.done once same).by k.runs in
      (p.0, p.1 ∙ sym k.tree)

  -- what was committed runs by itself
  pub done_runs : (c : Log y) → Kept y o c → Runs y o c.done
  done_runs c k = runs_under y laws o (numbers c.opens) c.log c.done (kept_orders c (numbers c.opens) k k.once (λ u. refl)).0

  -- the others run above t as if t had committed, and give the tree
  others_above : (c : Log y) (t : ℕ) → Kept y o c → among t (numbers c.opens) ≡ true → Runs y o (blocks (others y c t) c.log (only t c.log ++ c.done)) × (state y o (blocks (others y c t) c.log (only t c.log ++ c.done)) ≡ c.tree)
  others_above c t k m =
      let p = (in_order (without t c.opens) c.log (only t c.log ++ c.done) (others y c t) (λ u n. k.apart u (still_open t u c.opens n)) (as_committed y laws o c t k m) (once_without t c.opens k.once) (λ u. refl)).by k.runs in
      (p.0, p.1 ∙ sym k.tree)

  -- what t did runs right after what was committed
  pub own_runs : (c : Log y) (t : ℕ) → Kept y o c → among t (numbers c.opens) ≡ true → Runs y o (only t c.log ++ c.done)
  own_runs c t k m = runs_under y laws o (others y c t) c.log _ (others_above c t k m).0

  -- the answer to a command in t is that of t's own tree
  pub own_answer : (c : Log y) (t : ℕ) (b : y.Command) → Kept y o c → among t (numbers c.opens) ≡ true → log_holder y (y.footprint b c.tree) c.log (others y c t) ≡ None → Alike y b c.tree (own_state y o c t)
  own_answer c t b k m e =
      let p = others_above c t k m in
      let q = own_blocks y laws o b (y.footprint b c.tree) (others y c t) c.log (only t c.log ++ c.done) p.0 (holder_none y (y.footprint b c.tree) c.log (others y c t) e) (ap (y.footprint b) p.1) in
      subst (λ s. Alike y b s (own_state y o c t)) p.1 q

  try_answer : (c : Log y) (t : ℕ) (b : y.Command) (r : Attempt y.Change) → (try_do y c t b r).1 ≡ attempt_reply r
  try_answer c t b (Accept a d) = refl
  try_answer c t b (Refuse e) = refl

  -- the answer to a command is Busy, or that of the transaction's own tree
  pub do_answer : (c : Log y) (t : ℕ) (b : y.Command) (h : Option ℕ) → log_holder y (y.footprint b c.tree) c.log (others y c t) ≡ h → Kept y o c → among t (numbers c.opens) ≡ true → (do_at y c t b h).1 ≡ command_reply h (y.effect b (own_state y o c t))
  do_answer c t b (Some u) e k m = refl
  do_answer c t b None e k m = try_answer c t b (y.effect b c.tree) ∙ ap attempt_reply (own_answer c t b k m e).0

  taken_off : (c : Log y) (t : ℕ) (l : List (StackEntry y)) (Rest : Log y → Type 0) → only t c.log ≡ l → Kept y o c → among t (numbers c.opens) ≡ true → Rest c → ((x : StackEntry y) → Kept y o (pop y c t x) → Rest (pop y c t x)) → LogTakenOff y c t l Rest
  taken_off c t [] Rest e k m stays goes = stays
  taken_off c t (x ∷ l) Rest e k m stays goes = let p = pop_kept y laws o c t x l k m e in (p.0, goes x p.1)

  -- open transactions unwind in every interleaving
  pub unwinding : y.Sound o → (ts : List ℕ) (c : Log y) → AllByRecursion (λ t. among t (numbers c.opens) ≡ true) ts → Kept y o c → LogUnwinds y c ts
  unwinding sound [] c are_open k = kept_sound sound c k
  unwinding sound (t ∷ ts) c are_open k =
      (kept_sound sound c k, taken_off c t (only t c.log) (λ c'. LogUnwinds y c' ts) refl k are_open.0 (unwinding sound ts c are_open.1 k) (λ x k'. unwinding sound ts (pop y c t x) are_open.1 k'))

  noted_answer : (b : Bool) (s : ℕ) (r : Request y) (h : Option ℕ) (p : Log y × Answer) → (log_noted b s r h p).1 ≡ p.1
  noted_answer true s r h p = refl
  noted_answer false s r h p = refl

  -- recording changes no answer
  pub note_answer : (s : ℕ) (r : Request y) (h : Option ℕ) (p : Log y × Answer) → (log_note s r h p).1 ≡ p.1
  note_answer s r h p = noted_answer (is_recorded r p.1) s r h p
