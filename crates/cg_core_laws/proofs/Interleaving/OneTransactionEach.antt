-- A session has one open transaction at most, as the answers of a legal history have it.
use Rattle.std.proofs.Common.{◌≡◌, ℕ, Bool, true, false, cond, List, [], ◌∷◌, ◌++◌, ◌==◌, ◌||◌, Option, Some, None, refl, sym, ap, ◌∙◌, subst, true≢false}
use Rattle.std.proofs.lemmas.Bool.{cond_both, eq-eqb, or_parts, or_from}
use Rattle.std.specs.Cmp.{nat_eq_equiv}
use Rattle.cg_name.specs.declared.refusal.Refusal.TheVariants.{Full, NoSavepoint, NameTaken}
use Rattle.cg_model.specs.System.{System, Attempt, Refuse, Accept}
use Rattle.cg_model.specs.History.{Request, Begin, Do, Save, Back, Undo, Commit, Abort, Answer, Begun, Saved, WentBack, Committed, Aborted, Refused, History}
use Rattle.cg_model.specs.Opens.{Opens, numbers, among, without, transaction_in, opens_after, opens}
use Rattle.cg_model.specs.Live.{Items, Ran, AtSavepoint, live}
use Rattle.cg_model.specs.Run.{own_tree}
use Rattle.cg_model.specs.Reply.{has_savepoint, commands_above, is_full, undo_reply, command_reply, reply_in, reply_at, Legal}
use Rattle.cg_core_laws.specs.Serial.{OnceEach}

abbrev pub sessions : Opens → List ℕ
sessions [] = []
sessions (p ∷ ps) = p.0 ∷ sessions ps

-- ---- the answers in a transaction begin none

abbrev is_begun : Answer → Bool
is_begun (Begun u) = true
is_begun _ = false

begun_command : {D : Type 0} (h : Option ℕ) (e : Attempt D) → is_begun (command_reply h e) ≡ false
begun_command (Some u) e = refl
begun_command None (Refuse r) = refl
begun_command None (Accept a d) = refl

module _ (y : System) (o : y.State) (bound : ℕ) where
  begun_undo : (l : Items y) → is_begun (undo_reply l) ≡ false
  begun_undo [] = refl
  begun_undo (Ran t h c a ∷ l) = refl
  begun_undo (AtSavepoint t h n ∷ l) = refl

  begun_in : (h : History y) (t : ℕ) (r : Request y) → is_begun (reply_in y o bound h t r) ≡ false
  begun_in h t Begin = refl
  begun_in h t (Do c) = cond_both (is_full bound h) (Refused Full) _ (λ a. is_begun a ≡ false) (λ _. refl) (λ _. begun_command _ (y.effect c (own_tree y o t h)))
  begun_in h t (Save n) =
      cond_both (has_savepoint n (live t h)) (Refused NameTaken) _ (λ a. is_begun a ≡ false) (λ _. refl)
      (λ _. cond_both (is_full bound h) (Refused Full) Saved (λ a. is_begun a ≡ false) (λ _. refl) (λ _. refl))
  begun_in h t (Back n) = cond_both (has_savepoint n (live t h)) (WentBack (commands_above n 0 (live t h))) (Refused NoSavepoint) (λ a. is_begun a ≡ false) (λ _. refl) (λ _. refl)
  begun_in h t Undo = begun_undo (live t h)
  begun_in h t Commit = refl
  begun_in h t Abort = refl

  pub begun_alone : (h : History y) (r : Request y) (u : ℕ) (found : Option ℕ) → reply_at y o bound h found r ≡ Begun u → found ≡ None
  begun_alone h r u None e = refl
  begun_alone h r u (Some t) e = absurd (true≢false (sym (ap is_begun e) ∙ begun_in h t r))

  -- ---- the sessions

  not_first : (s : ℕ) (p : ℕ × ℕ) (r : Option ℕ) (m b : Bool) → (p.0 == s) ≡ b → cond b (Some p.1) r ≡ None → (r ≡ None → m ≡ false) → ((s == p.0) || m) ≡ false
  not_first s p r m true k e i = absurd (cc e)
  not_first s p r m false k e i = or_from (s == p.0) m (nat_eq_equiv.symm s p.0 ∙ k) (i e)

  no_session : (s : ℕ) (ps : Opens) → transaction_in s ps ≡ None → among s (sessions ps) ≡ false
  no_session s [] e = refl
  no_session s (p ∷ ps) e = not_first s p (transaction_in s ps) (among s (sessions ps)) (p.0 == s) refl e (no_session s ps)

  kept_session : (b : Bool) (s : ℕ) (p : ℕ × ℕ) (r : Opens) → (s == p.0) ≡ false → among s (sessions r) ≡ false → among s (sessions (cond b r (p ∷ r))) ≡ false
  kept_session true s p r k e = e
  kept_session false s p r k e = or_from (s == p.0) (among s (sessions r)) k e

  session_without : (s t : ℕ) (ps : Opens) → among s (sessions ps) ≡ false → among s (sessions (without t ps)) ≡ false
  session_without s t [] e = e
  session_without s t (p ∷ ps) e =
      kept_session (p.1 == t) s p (without t ps) (or_parts (s == p.0) (among s (sessions ps)) e).0 (session_without s t ps (or_parts (s == p.0) (among s (sessions ps)) e).1)

  once_cond : (b : Bool) (p : ℕ × ℕ) (r : Opens) → among p.0 (sessions r) ≡ false → OnceEach (sessions r) → OnceEach (sessions (cond b r (p ∷ r)))
  once_cond true p r n h = h
  once_cond false p r n h = (n, h)

  sessions_once_without : (t : ℕ) (ps : Opens) → OnceEach (sessions ps) → OnceEach (sessions (without t ps))
  sessions_once_without t [] h = h
  sessions_once_without t (p ∷ ps) h = once_cond (p.1 == t) p (without t ps) (session_without p.0 t ps h.0) (sessions_once_without t ps h.1)

  once_after : (a : Answer) (s t : ℕ) (ps : Opens) → OnceEach (sessions ps) → ((u : ℕ) → a ≡ Begun u → transaction_in s ps ≡ None) → OnceEach (sessions (opens_after a s t ps))
  once_after (Begun u) s t ps h alone = (no_session s ps (alone u refl), h)
  once_after (Committed k) s t ps h alone = sessions_once_without t ps h
  once_after (Aborted u) s t ps h alone = sessions_once_without t ps h
  once_after _ s t ps h alone = h

  pub once_each : (h : History y) → Legal y o bound h → OnceEach (sessions (opens h))
  once_each [] legal = tt
  once_each (r ∷ h) (recorded, answered, named, defined, legal) =
      once_after r.answer r.session r.transaction (opens h) (once_each h legal) (λ u e. begun_alone h r.request u (transaction_in r.session (opens h)) (sym answered ∙ e))

-- ---- the oldest open transaction

among_more : (u x : ℕ) (l : List ℕ) → among u (l ++ x ∷ []) ≡ false → (u == x) ≡ false
among_more u x [] e = (or_parts (u == x) false e).0
among_more u x (v ∷ l) e = among_more u x l (or_parts (u == v) (among u (l ++ x ∷ [])) e).1

last_once : (l : List ℕ) (x : ℕ) → OnceEach (l ++ x ∷ []) → among x l ≡ false
last_once [] x h = refl
last_once (u ∷ l) x h = or_from (x == u) (among x l) (nat_eq_equiv.symm x u ∙ among_more u x l h.0) (last_once l x h.1)

sessions_last : (l : Opens) (p : ℕ × ℕ) → sessions (l ++ p ∷ []) ≡ sessions l ++ p.0 ∷ []
sessions_last [] p = refl
sessions_last (q ∷ l) p = ap (λ s. q.0 ∷ s) (sessions_last l p)

numbers_last : (l : Opens) (p : ℕ × ℕ) → numbers (l ++ p ∷ []) ≡ numbers l ++ p.1 ∷ []
numbers_last [] p = refl
numbers_last (q ∷ l) p = ap (λ s. q.1 ∷ s) (numbers_last l p)

find_last : (l : Opens) (p : ℕ × ℕ) → among p.0 (sessions l) ≡ false → transaction_in p.0 (l ++ p ∷ []) ≡ Some p.1
find_last [] p e = ap (λ b. cond b (Some p.1) None) (eq-eqb p.0 p.0 refl)
find_last (q ∷ l) p e =
    let other : (q.0 == p.0) ≡ false = nat_eq_equiv.symm q.0 p.0 ∙ (or_parts (p.0 == q.0) (among p.0 (sessions l)) e).0 in
    rw other (find_last l p (or_parts (p.0 == q.0) (among p.0 (sessions l)) e).1)

drop_last : (l : Opens) (p : ℕ × ℕ) → among p.1 (numbers l) ≡ false → without p.1 (l ++ p ∷ []) ≡ l
drop_last [] p e = ap (λ b. cond b [] (p ∷ [])) (eq-eqb p.1 p.1 refl)
drop_last (q ∷ l) p e =
    let other : (q.1 == p.1) ≡ false = nat_eq_equiv.symm q.1 p.1 ∙ (or_parts (p.1 == q.1) (among p.1 (numbers l)) e).0 in
    rw other (ap (λ r. q ∷ r) (drop_last l p (or_parts (p.1 == q.1) (among p.1 (numbers l)) e).1))

-- the last of the open ones is found by its session, and leaves the others
pub last_found : (l : Opens) (p : ℕ × ℕ) → OnceEach (sessions (l ++ p ∷ [])) → transaction_in p.0 (l ++ p ∷ []) ≡ Some p.1
last_found l p h = find_last l p (last_once (sessions l) p.0 (subst OnceEach (sessions_last l p) h))

pub last_left : (l : Opens) (p : ℕ × ℕ) → OnceEach (numbers (l ++ p ∷ [])) → without p.1 (l ++ p ∷ []) ≡ l
last_left l p h = drop_last l p (last_once (numbers l) p.1 (subst OnceEach (numbers_last l p) h))
