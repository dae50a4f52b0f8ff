-- Each step of the machine with a log keeps it, and so does each list of steps.
use Rattle.std.proofs.Common.{◌≡◌, ℕ, ◌+◌, Bool, true, false, List, [], ◌∷◌, ◌++◌, ◌==◌, not, Option, Some, None, refl, sym, ap, ◌∙◌, subst, arith, inl, inr, ◌≤◌}
use Rattle.std.proofs.lemmas.Bool.{cond_both, eqb-true, or_parts, false_from_ne_true, or_cases}
use Rattle.std.proofs.lemmas.Bool.Decides.{nat_tests}
use Rattle.std.specs.Cmp.{nat_eq_equiv}
use Rattle.cg_name.specs.Name.{Name}
use Rattle.cg_model.specs.System.{System, Attempt, Refuse, Accept}
use Rattle.cg_model.specs.History.{Request, Begin, Do, Save, Back, Undo, Commit, Abort, Answer, History, is_recorded, IsProperRequest}
use Rattle.cg_model.specs.Opens.{Opens, numbers, among, without, transaction_in}
use Rattle.cg_model.specs.Live.{joined_if}
use Rattle.cg_model.specs.Reply.{found_or}
use Rattle.cg_model.specs.Machine.{StackEntry, Did, Savepoint, hits, stack_has_savepoint}
use Rattle.cg_core_laws.specs.Serial.{AreProper}
use Rattle.cg_core_laws.proofs.Interleaving.SystemLaws.{SystemLaws}
use Rattle.cg_core_laws.proofs.Interleaving.RunsOfStackEntries.{owner, Accepts, moved, FreeOf, keep, only, Apart, Same, Clear, Passes, PassAlike}
use Rattle.cg_core_laws.proofs.Interleaving.LogMachine.{Log, log_opened, log_holder, pop_all, try_do, do_at, undo_at, others, ended, is_full_log, log_step_in, log_step_out, log_step_at, log_noted, log_step, log_steps}
use Rattle.cg_core_laws.proofs.Interleaving.StepsWithoutTransaction.{with_begun, of_out}
use Rattle.cg_core_laws.proofs.Interleaving.Gathering.{same_refl, same_trans, same_append, gather}
use Rattle.cg_core_laws.proofs.Interleaving.TakingOff.{keep_same}
use Rattle.cg_core_laws.proofs.Interleaving.AnswersInParts.{clear_free}
use Rattle.cg_core_laws.proofs.Interleaving.OpenTransactions.{closed, among_without, still_open, closed_without, once_without, transaction_open}
use Rattle.cg_core_laws.proofs.Interleaving.LogInvariant.{OwnersUpTo, Kept, Keeps, pop_kept, pop_all_kept, back_kept}

-- no hit, no clash
clear_from : (y : System) (f : y.Footprint) (l : List (StackEntry y)) → hits y f l ≡ false → Clear y f l
clear_from y f [] h = tt
clear_from y f (Did t th c a d g ∷ l) h = let p = or_parts (y.clashes g f) (hits y f l) h in (p.0, clear_from y f l p.1)
clear_from y f (Savepoint t th n ∷ l) h = clear_from y f l h

none_found : (o : Option ℕ) (b : Bool) (v : ℕ) → found_or o b v ≡ None → (o ≡ None) × (b ≡ false)
none_found (Some w) b v e = absurd (cc e)
none_found None true v e = absurd (cc e)
none_found None false v e = (refl, refl)

-- where no transaction is named, none holds what clashes
pub holder_none : (y : System) (f : y.Footprint) (log : List (StackEntry y)) (os : List ℕ) → log_holder y f log os ≡ None → (u : ℕ) → among u os ≡ true → Clear y f (only u log)
holder_none y f log [] e u m = absurd (cc m)
holder_none y f log (v ∷ os) e u m =
    let p = none_found (log_holder y f log os) (hits y f (only v log)) v e in
    elim (or_cases (u == v) (among u os) m) [
      | inl k ↦ subst (λ w. Clear y f (only w log)) (sym (eqb-true u v k)) (clear_from y f (only v log) p.1)
      | inr k ↦ holder_none y f log os p.0 u k
    ]

pub passes : {y : System} (p : ℕ → Bool) (a : List (StackEntry y)) → ((u : ℕ) → p u ≡ true) → Passes p a
passes p [] h = tt
passes p (x ∷ a) h = (h (owner x), passes p a h)

-- what is at most n is not the next number
other_next : (a n : ℕ) → a ≤ n → (a == n + 1) ≡ false
other_next a n h = grind (arith, nat_tests)

-- a number above those of the owners
module _ (y : System) (n : ℕ) where
  pub none_of_next : (a : List (StackEntry y)) → OwnersUpTo n a → only (n + 1) a ≡ []
  none_of_next [] h = refl
  none_of_next (x ∷ a) h = rw (other_next (owner x) n h.0) (none_of_next a h.1)

  apart_next : (a : List (StackEntry y)) → OwnersUpTo n a → Apart y (n + 1) a
  apart_next [] h = tt
  apart_next (x ∷ a) h = ((λ k. subst (FreeOf y x) (sym (none_of_next a h.1)) tt), apart_next a h.1)

  owners_next : (a : List (StackEntry y)) → OwnersUpTo n a → OwnersUpTo (n + 1) a
  owners_next [] h = tt
  owners_next (x ∷ a) h = (omega (arith, h.0), owners_next a h.1)

  pass_alike_next : (s : ℕ) (ps : Opens) (a : List (StackEntry y)) → OwnersUpTo n a → PassAlike (closed ((s, n + 1) ∷ ps)) (closed ps) a
  pass_alike_next s ps [] h = tt
  pass_alike_next s ps (x ∷ a) h = (rw (other_next (owner x) n h.0), pass_alike_next s ps a h.1)

module _ (y : System) (laws : SystemLaws y) (o : y.State) where
  begin_kept : (c : Log y) (s : ℕ) → Kept y o c → Kept y o (with_begun y c s)
  begin_kept c s k = record {
    runs = k.runs;
    tree = k.tree;
    apart = λ u m. elim (or_cases (u == c.begun + 1) (among u (numbers c.opens)) m) [
      | inl e ↦ subst (λ v. Apart y v c.log) (sym (eqb-true u (c.begun + 1) e)) (apart_next y c.begun c.log k.owners)
      | inr e ↦ k.apart u e
    ];
    done = subst (λ l. Same y o l c.done) (sym (keep_same y (closed ((s, c.begun + 1) ∷ c.opens)) (closed c.opens) c.log (pass_alike_next y c.begun s c.opens c.log k.owners))) k.done;
    owners = owners_next y c.begun c.log k.owners;
    range = λ u m. elim (or_cases (u == c.begun + 1) (among u (numbers c.opens)) m) [
      | inl e ↦ let q = eqb-true u (c.begun + 1) e in omega arith
      | inr e ↦ let q = k.range u e in omega arith
    ];
    once = (false_from_ne_true (among (c.begun + 1) (numbers c.opens)) (λ e. let q = k.range (c.begun + 1) e in omega arith), k.once);
  }

  push_kept : (c : Log y) (x : StackEntry y) → Kept y o c → among (owner x) (numbers c.opens) ≡ true → Accepts y c.tree x → ((u : ℕ) → among u (numbers c.opens) ≡ true → (owner x == u) ≡ false → FreeOf y x (only u c.log)) → Kept y o (record c { tree = moved y x c.tree; log = x ∷ c.log })
  push_kept c x k m accepts free = record {
    runs = (subst (λ s. Accepts y s x) k.tree accepts, k.runs);
    tree = ap (moved y x) k.tree;
    apart = λ u n. ((λ e. free u n e), k.apart u n);
    done = subst (λ b. Same y o (joined_if b x (keep (closed c.opens) c.log)) c.done) (sym (ap not m)) k.done;
    owners = (k.range (owner x) m, k.owners);
    range = k.range;
    once = k.once;
  }

  -- what t did, below what the others did and above what was committed
  pub as_committed : (c : Log y) (t : ℕ) → Kept y o c → among t (numbers c.opens) ≡ true → Same y o (keep (closed (without t c.opens)) c.log) (only t c.log ++ c.done)
  as_committed c t k m =
      same_trans y laws o _ _ _
      (gather y laws o t (closed c.opens) (closed (without t c.opens)) (ap not m) (λ u. closed_without t u c.opens) c.log (k.apart t m))
      (same_append y laws o (only t c.log) _ _ k.done)

  commit_kept : (c : Log y) (s t : ℕ) → Kept y o c → among t (numbers c.opens) ≡ true → Kept y o (log_step_in y c s t Commit).0
  commit_kept c s t k m = record {
    runs = k.runs;
    tree = k.tree;
    apart = λ u n. k.apart u (still_open t u c.opens n);
    done = as_committed c t k m;
    owners = k.owners;
    range = λ u n. k.range u (still_open t u c.opens n);
    once = once_without t c.opens k.once;
  }

  ended_kept : (c : Log y) (t : ℕ) → Kept y o c → among t (numbers c.opens) ≡ true → only t c.log ≡ [] → Kept y o (ended y c t)
  ended_kept c t k m e = record {
    runs = k.runs;
    tree = k.tree;
    apart = λ u n. k.apart u (still_open t u c.opens n);
    done = subst (λ l. Same y o (keep (closed (without t c.opens)) c.log) (l ++ c.done)) e (as_committed c t k m);
    owners = k.owners;
    range = λ u n. k.range u (still_open t u c.opens n);
    once = once_without t c.opens k.once;
  }

  abort_kept : (c : Log y) (s t : ℕ) → Kept y o c → among t (numbers c.opens) ≡ true → Kept y o (log_step_in y c s t Abort).0
  abort_kept c s t k m =
      let p = pop_all_kept y laws o t (only t c.log) c k m refl in
      ended_kept (pop_all y t (only t c.log) c) t p.0 (subst (λ ps. among t (numbers ps) ≡ true) (sym p.2) m) p.1

  undo_kept : (c : Log y) (t : ℕ) (l : List (StackEntry y)) → Kept y o c → among t (numbers c.opens) ≡ true → only t c.log ≡ l → Kept y o (undo_at y c t l).0
  undo_kept c t [] k m e = k
  undo_kept c t (Savepoint u uh n ∷ l) k m e = k
  undo_kept c t (Did u uh b a d f ∷ l) k m e = (pop_kept y laws o c t (Did u uh b a d f) l k m e).1

  not_own : (c : Log y) (t u : ℕ) → among u (numbers c.opens) ≡ true → (t == u) ≡ false → among u (others y c t) ≡ true
  not_own c t u m e = among_without t u c.opens ∙ (rw (nat_eq_equiv.symm u t, e, m))

  try_kept : (c : Log y) (t : ℕ) (b : y.Command) (r : Attempt y.Change) → y.Proper b → y.effect b c.tree ≡ r → Kept y o c → among t (numbers c.opens) ≡ true → ((u : ℕ) → among u (others y c t) ≡ true → Clear y (y.footprint b c.tree) (only u c.log)) → Kept y o (try_do y c t b r).0
  try_kept c t b (Accept a d) proper e k m clear =
      push_kept c (Did t c.history b a d (y.footprint b c.tree)) k m (proper, e, refl) (λ u n f. clear_free y laws o t c.history b a d _ _ (clear u (not_own c t u n f)))
  try_kept c t b (Refuse w) proper e k m clear = k

  do_kept : (c : Log y) (t : ℕ) (b : y.Command) (h : Option ℕ) → y.Proper b → log_holder y (y.footprint b c.tree) c.log (others y c t) ≡ h → Kept y o c → among t (numbers c.opens) ≡ true → Kept y o (do_at y c t b h).0
  do_kept c t b (Some u) proper e k m = k
  do_kept c t b None proper e k m = try_kept c t b (y.effect b c.tree) proper refl k m (holder_none y (y.footprint b c.tree) c.log (others y c t) e)

  savepoint_free : (t : ℕ) (th : History y) (n : Name) (l : List (StackEntry y)) → FreeOf y (Savepoint t th n) l
  savepoint_free t th n [] = tt
  savepoint_free t th n (Did u uh b a d f ∷ l) = (tt, savepoint_free t th n l)
  savepoint_free t th n (Savepoint u uh i ∷ l) = (tt, savepoint_free t th n l)

  in_kept : (c : Log y) (s t : ℕ) (r : Request y) → IsProperRequest r → Kept y o c → among t (numbers c.opens) ≡ true → Kept y o (log_step_in y c s t r).0
  in_kept c s t Begin proper k m = k
  in_kept c s t (Do b) proper k m =
      cond_both (is_full_log c) _ _ (Keeps y o) (λ _. k) (λ _. do_kept c t b (log_holder y (y.footprint b c.tree) c.log (others y c t)) proper refl k m)
  in_kept c s t (Save n) proper k m =
      cond_both (stack_has_savepoint n (only t c.log)) _ _ (Keeps y o) (λ _. k)
      (λ _. cond_both (is_full_log c) _ _ (Keeps y o) (λ _. k) (λ _. push_kept c (Savepoint t c.history n) k m tt (λ u i f. savepoint_free t c.history n (only u c.log))))
  in_kept c s t (Back n) proper k m =
      cond_both (stack_has_savepoint n (only t c.log)) _ _ (Keeps y o) (λ _. back_kept y laws o t n (only t c.log) c 0 k m refl) (λ _. k)
  in_kept c s t Undo proper k m = undo_kept c t (only t c.log) k m refl
  in_kept c s t Commit proper k m = commit_kept c s t k m
  in_kept c s t Abort proper k m = abort_kept c s t k m

  out_kept : (c : Log y) (s : ℕ) (r : Request y) → Kept y o c → Kept y o (log_step_out y c s r).0
  out_kept c s r k = of_out y (λ _ p. Kept y o p.0) c s (λ _ _ _. k) (λ _. begin_kept c s k) r

  at_kept : (c : Log y) (s : ℕ) (r : Request y) (h : Option ℕ) → IsProperRequest r → transaction_in s c.opens ≡ h → Kept y o c → Kept y o (log_step_at y c s r h).0
  at_kept c s r (Some t) proper e k = in_kept c s t r proper k (transaction_open s t c.opens e)
  at_kept c s r None proper e k = out_kept c s r k

  noted_kept : (b : Bool) (s : ℕ) (r : Request y) (h : Option ℕ) (p : Log y × Answer) → Kept y o p.0 → Kept y o (log_noted b s r h p).0
  noted_kept true s r h p k = record { runs = k.runs; tree = k.tree; apart = k.apart; done = k.done; owners = k.owners; range = k.range; once = k.once }
  noted_kept false s r h p k = k

  pub step_kept : (c : Log y) (s : ℕ) (r : Request y) → IsProperRequest r → Kept y o c → Kept y o (log_step y c s r).0
  step_kept c s r proper k =
      let p = log_step_at y c s r (transaction_in s c.opens) in
      noted_kept (is_recorded r p.1) s r (transaction_in s c.opens) p (at_kept c s r (transaction_in s c.opens) proper refl k)

  pub run_kept : (ps : List (ℕ × Request y)) (c : Log y) → AreProper ps → Kept y o c → Kept y o (log_steps y c ps)
  run_kept [] c proper k = k
  run_kept (p ∷ ps) c proper k = run_kept ps (log_step y c p.0 p.1).0 proper.1 (step_kept c p.0 p.1 proper.0 k)

  pub start_kept : (bound : ℕ) → Kept y o (log_opened y o bound)
  start_kept bound = record {
    runs = tt;
    tree = refl;
    apart = λ u m. tt;
    done = same_refl y laws o [];
    owners = tt;
    range = λ u m. absurd (cc m);
    once = tt;
  }
