-- What stands by a session's calls is the stack of its open transaction: each record changes both alike.
use Rattle.std.proofs.Common.{◌≡◌, ◌≤◌, ◌<◌, ◌+◌, ◌==◌, ◌||◌, ℕ, Bool, true, false, cond, List, [], ◌∷◌, ◌++◌, map, Option, Some, None, refl, sym, ap, subst, ◌∙◌, arith, true≢false}
use Rattle.std.proofs.lemmas.Bool.{cond_both, eqb-true, eq-eqb, false_from_ne_true}
use Rattle.std.specs.Cmp.{nat_eq_equiv}
use Rattle.cg_name.specs.Name.{Name, same_name}
use Rattle.cg_name.specs.declared.refusal.Refusal.TheVariants as refusals
use Rattle.cg_model.specs.Tree.{Tree}
use Rattle.cg_model.specs.Cgroups.{cgroups}
use Rattle.cg_model.specs.System.{Attempt, Refuse, Accept}
use Rattle.cg_model.specs.History.{Request, Begin, Do, Save, Back, Undo, Commit, Abort, Answer, Begun, Gave, Saved, WentBack, Committed, Aborted, Refused, Record, History, is_recorded, named_in}
use Rattle.cg_model.specs.Live.{Items, Ran, AtSavepoint, below, live, live_after}
use Rattle.cg_model.specs.Opens.{Opens, among, begins, begins_after, commits, numbers, opens, opens_after, transaction_in, without}
use Rattle.cg_model.specs.Reply.{command_reply, commands_above, has_savepoint, holder, is_full, reply_at, reply_in, undo_reply, Legal}
use Rattle.cg_model.specs.Run.{own_tree, tree_of}
use Rattle.cg_core_laws.specs.Serial.{OnceEach}
use Rattle.cg_core_laws.proofs.Interleaving.CommitsByCommands.{begins_more, begun_next, open_begun}
use Rattle.cg_core_laws.proofs.Interleaving.OneTransactionEach.{once_each, sessions}
use Rattle.cg_core_laws.proofs.Interleaving.OpenTransactions.{once_without, transaction_open}
use Rattle.cg_log.specs.Call.{call_in, calls_of}
use Rattle.cg_log.proofs.Standing.{standing-more}
use Rattle.cg_desk.specs.LiveStacks.{told_item, told_stack}
use Rattle.cg_log.specs.Standing.{Item, before_savepoint, standing, stands_after}

-- ---- open transactions, by their sessions

-- a session whose transaction is another one has it without this one
kept_without : (s t : ℕ) (ps : Opens) → ((u : ℕ) → transaction_in s ps ≡ Some u → (u == t) ≡ false) → transaction_in s (without t ps) ≡ transaction_in s ps
kept_without s t [] other = refl
kept_without s t (p ∷ ps) other = at (p.0 == s) (p.1 == t) refl refl other (kept_without s t ps)
  where
    at : (b c : Bool) → (p.0 == s) ≡ b → (p.1 == t) ≡ c → ((u : ℕ) → cond b (Some p.1) (transaction_in s ps) ≡ Some u → (u == t) ≡ false)
        → (((u : ℕ) → transaction_in s ps ≡ Some u → (u == t) ≡ false) → transaction_in s (without t ps) ≡ transaction_in s ps)
        → transaction_in s (cond c (without t ps) (p ∷ without t ps)) ≡ cond b (Some p.1) (transaction_in s ps)
    at true true i k differs rest = absurd (true≢false (sym k ∙ differs p.1 refl))
    at true false i k differs rest = ap (λ d. cond d (Some p.1) (transaction_in s (without t ps))) i
    at false true i k differs rest = rest differs
    at false false i k differs rest = ap (λ d. cond d (Some p.1) (transaction_in s (without t ps))) i ∙ rest differs

-- a session that isn't among those of the open transactions has none
none_there : (s t : ℕ) (ps : Opens) → among s (sessions ps) ≡ false → transaction_in s (without t ps) ≡ None
none_there s t [] e = refl
none_there s t (p ∷ ps) e = at (p.1 == t) (p.0 == s) refl (s == p.0) refl e (none_there s t ps)
  where
    at : (c b : Bool) → (p.0 == s) ≡ b → (d : Bool) → (s == p.0) ≡ d → (d || among s (sessions ps)) ≡ false → (among s (sessions ps) ≡ false → transaction_in s (without t ps) ≡ None)
        → transaction_in s (cond c (without t ps) (p ∷ without t ps)) ≡ None
    at c b i true k f rest = absurd (true≢false f)
    at true b i false k f rest = rest f
    at false true i false k f rest = absurd (true≢false (sym (eq-eqb s p.0 (sym (eqb-true p.0 s i))) ∙ k))
    at false false i false k f rest = ap (λ d. cond d (Some p.1) (transaction_in s (without t ps))) i ∙ rest f

-- without its one transaction a session has none
gone_without : (s t : ℕ) (ps : Opens) → OnceEach (sessions ps) → transaction_in s ps ≡ Some t → transaction_in s (without t ps) ≡ None
gone_without s t [] once e = refl
gone_without s t (p ∷ ps) once e = at (p.0 == s) refl e (gone_without s t ps once.1)
  where
    other : (c : Bool) → (p.0 == s) ≡ false → transaction_in s (without t ps) ≡ None → transaction_in s (cond c (without t ps) (p ∷ without t ps)) ≡ None
    other true i rest = rest
    other false i rest = ap (λ d. cond d (Some p.1) (transaction_in s (without t ps))) i ∙ rest

    at : (b : Bool) → (p.0 == s) ≡ b → cond b (Some p.1) (transaction_in s ps) ≡ Some t → (transaction_in s ps ≡ Some t → transaction_in s (without t ps) ≡ None)
        → transaction_in s (cond (p.1 == t) (without t ps) (p ∷ without t ps)) ≡ None
    at true i k rest =
        let is : p.1 ≡ t = cc k in
        ap (λ c. transaction_in s (cond c (without t ps) (p ∷ without t ps))) (eq-eqb p.1 t is) ∙ none_there s t ps (ap (λ q. among q (sessions ps)) (sym (eqb-true p.0 s i)) ∙ once.0)
    at false i k rest = other (p.1 == t) i (rest k)

-- a transaction is open in one session
one_session : (s r t : ℕ) (ps : Opens) → OnceEach (numbers ps) → transaction_in s ps ≡ Some t → transaction_in r ps ≡ Some t → s ≡ r
one_session s r t [] once e f = absurd (cc e)
one_session s r t (p ∷ ps) once e f = at (p.0 == s) (p.0 == r) refl refl e f (one_session s r t ps once.1)
  where
    first : (q : ℕ) → Some p.1 ≡ Some t → transaction_in q ps ≡ Some t → ⊥
    first q is rest = true≢false (sym (transaction_open q t ps rest) ∙ ap (λ u. among u (numbers ps)) (cc (sym is)) ∙ once.0)

    at : (b c : Bool) → (p.0 == s) ≡ b → (p.0 == r) ≡ c → cond b (Some p.1) (transaction_in s ps) ≡ Some t → cond c (Some p.1) (transaction_in r ps) ≡ Some t
        → (transaction_in s ps ≡ Some t → transaction_in r ps ≡ Some t → s ≡ r) → s ≡ r
    at true true i k e f rest = sym (eqb-true p.0 s i) ∙ eqb-true p.0 r k
    at true false i k e f rest = absurd (first r e f)
    at false true i k e f rest = absurd (first s f e)
    at false false i k e f rest = rest e f

module _ (O : Tree) (bound : ℕ) where
  -- ---- numbers of transactions

  next : (h : History cgroups) (r : Record cgroups) → Legal cgroups O bound (r ∷ h) → (u : ℕ) → r.answer ≡ Begun u → u ≡ begins h + 1
  next h r legal u i = begun_next cgroups O bound h r.request u (transaction_in r.session (opens h)) (sym legal.1 ∙ i)

  open_low : (h : History cgroups) → Legal cgroups O bound h → (s t : ℕ) → transaction_in s (opens h) ≡ Some t → t ≤ begins h
  open_low h legal s t e = open_begun cgroups O bound h legal t (transaction_open s t (opens h) e)

  named_low : (n : ℕ) (o : Option ℕ) (a : Answer) → ((t : ℕ) → o ≡ Some t → t ≤ n) → ((u : ℕ) → a ≡ Begun u → u ≡ n + 1) → named_in o a ≤ begins_after a n
  named_low n (Some t) a low begun = let it = low t refl in let more = begins_more cgroups O bound a n in omega (arith, it, more)
  named_low n None (Begun u) low begun = let it = begun u refl in omega (arith, it)
  named_low n None (Gave a) low begun = omega arith
  named_low n None Saved low begun = omega arith
  named_low n None (WentBack k) low begun = omega arith
  named_low n None (Committed k) low begun = omega arith
  named_low n None (Aborted u) low begun = omega arith
  named_low n None (Refused x) low begun = omega arith

  record_low : (r : Record cgroups) (h : History cgroups) → Legal cgroups O bound (r ∷ h) → r.transaction ≤ begins (r ∷ h)
  record_low r h legal =
      let low = named_low (begins h) (transaction_in r.session (opens h)) r.answer (λ t e. open_low h legal.4 r.session t e) (next h r legal) in
      omega (arith, low, legal.2)

  -- a transaction that isn't begun has no stack
  fresh : (h : History cgroups) → Legal cgroups O bound h → (t : ℕ) → begins h < t → live t h ≡ []
  fresh [] legal t lt = refl
  fresh (r ∷ h) legal t lt =
      let low = record_low r h legal in
      let more = begins_more cgroups O bound r.answer (begins h) in
      let other : (r.transaction == t) ≡ false = false_from_ne_true (r.transaction == t) (λ e. let is = eqb-true r.transaction t e in omega (arith, is, low, lt)) in
      rw other (fresh h legal.4 t (omega (arith, more, lt)))

  once_numbers : (h : History cgroups) → Legal cgroups O bound h → OnceEach (numbers (opens h))
  once_numbers [] legal = tt
  once_numbers (r ∷ h) legal = at r.answer refl (once_numbers h legal.4)
    where
      at : (a : Answer) → r.answer ≡ a → OnceEach (numbers (opens h)) → OnceEach (numbers (opens_after a r.session r.transaction (opens h)))
      at (Begun u) i rest =
          let is = next h r legal u i in (
            false_from_ne_true (among u (numbers (opens h))) (λ e. let low = open_begun cgroups O bound h legal.4 u e in omega (arith, is, low)),
            rest,
          )
      at (Committed k) i rest = once_without r.transaction (opens h) rest
      at (Aborted u) i rest = once_without r.transaction (opens h) rest
      at (Gave a) i rest = rest
      at Saved i rest = rest
      at (WentBack k) i rest = rest
      at (Refused x) i rest = rest

  -- ---- a record of a session that has no transaction

  -- it is one of a Begin
  begins_there : (h : History cgroups) (q : Request cgroups) (a : Answer) → a ≡ reply_at cgroups O bound h None q → is_recorded q a ≡ true → (q ≡ Begin) × (a ≡ Begun (begins h + 1))
  begins_there h Begin a e has = (refl, at (is_full bound h) e)
    where
      at : (b : Bool) → a ≡ cond b (Refused refusals.Full) (Begun (begins h + 1)) → a ≡ Begun (begins h + 1)
      at true i = absurd (true≢false (sym has ∙ ap (is_recorded {y = cgroups} Begin) i))
      at false i = i
  begins_there h (Do c) a e has = absurd (true≢false (sym has ∙ ap (is_recorded {y = cgroups} (Do c)) e))
  begins_there h (Save n) a e has = absurd (true≢false (sym has ∙ ap (is_recorded {y = cgroups} (Save n)) e))
  begins_there h (Back n) a e has = absurd (true≢false (sym has ∙ ap (is_recorded {y = cgroups} (Back n)) e))
  begins_there h Undo a e has = absurd (true≢false (sym has ∙ ap (is_recorded {y = cgroups} Undo) e))
  begins_there h Commit a e has = absurd (true≢false (sym has ∙ ap (is_recorded {y = cgroups} Commit) e))
  begins_there h Abort a e has = absurd (true≢false (sym has ∙ ap (is_recorded {y = cgroups} Abort) e))

  -- ---- a record of another session

  module _ (r : Record cgroups) (h : History cgroups) (legal : Legal cgroups O bound (r ∷ h)) (s : ℕ) (other : (s == r.session) ≡ false) where
    not_it : (t : ℕ) → transaction_in s (opens h) ≡ Some t → (r.transaction == t) ≡ false
    not_it t e = false_from_ne_true (r.transaction == t) (λ k. at (transaction_in r.session (opens h)) refl (eqb-true r.transaction t k))
      where
        at : (o : Option ℕ) → transaction_in r.session (opens h) ≡ o → r.transaction ≡ t → ⊥
        at (Some u) f is =
            let own : r.transaction ≡ u = legal.2 ∙ ap (λ o. named_in o r.answer) f in
            let theirs : transaction_in r.session (opens h) ≡ Some t = f ∙ ap Some (sym own ∙ is) in
            true≢false (sym (eq-eqb s r.session (one_session s r.session t (opens h) (once_numbers h legal.4) e theirs)) ∙ other)
        at None f is =
            let begun : r.answer ≡ Begun (begins h + 1) = (begins_there h r.request r.answer (legal.1 ∙ ap (λ o. reply_at cgroups O bound h o r.request) f) legal.0).1 in
            let own : r.transaction ≡ begins h + 1 = legal.2 ∙ (λ j. named_in (f j) (begun j)) in
            let low = open_low h legal.4 s t e in
            omega (arith, low, own, is)

    differs : (u : ℕ) → transaction_in s (opens h) ≡ Some u → (u == r.transaction) ≡ false
    differs u e = nat_eq_equiv.symm u r.transaction ∙ not_it u e

    kept_open : (a : Answer) → transaction_in s (opens_after a r.session r.transaction (opens h)) ≡ transaction_in s (opens h)
    kept_open (Begun u) = ap (λ b. cond b (Some u) (transaction_in s (opens h))) (nat_eq_equiv.symm r.session s ∙ other)
    kept_open (Committed k) = kept_without s r.transaction (opens h) differs
    kept_open (Aborted k) = kept_without s r.transaction (opens h) differs
    kept_open (Gave a) = refl
    kept_open Saved = refl
    kept_open (WentBack k) = refl
    kept_open (Refused x) = refl

    same_stack : (o : Option ℕ) → transaction_in s (opens h) ≡ o → told_stack o (r ∷ h) ≡ told_stack o h
    same_stack None e = refl
    same_stack (Some t) e = ap (λ b. map told_item (cond b (live_after r.request r.answer r.transaction h (live t h)) (live t h))) (not_it t e)

    another : standing (calls_of s h) ≡ told_stack (transaction_in s (opens h)) h → standing (calls_of s (r ∷ h)) ≡ told_stack (transaction_in s (opens (r ∷ h))) (r ∷ h)
    another before =
        ap (λ b. standing (cond b (calls_of s h ++ call_in r ∷ []) (calls_of s h))) other
        ∙ before
        ∙ sym (same_stack (transaction_in s (opens h)) refl)
        ∙ ap (λ o. told_stack o (r ∷ h)) (sym (kept_open r.answer))

  -- ---- a record of the session itself

  told_below : (n : Name) (l : Items cgroups) → before_savepoint n (map told_item l) ≡ map told_item (below n l)
  told_below n [] = refl
  told_below n (Ran t h c a ∷ l) = told_below n l
  told_below n (AtSavepoint t h m ∷ l) = at (same_name m n) (told_below n l)
    where
      at : (b : Bool) → before_savepoint n (map told_item l) ≡ map told_item (below n l) → cond b (map told_item l) (before_savepoint n (map told_item l)) ≡ map told_item (cond b l (below n l))
      at true rest = refl
      at false rest = rest

  -- the items before an answered request, and those after it, are told alike
  module _ (u : ℕ) (h : History cgroups) (l : Items cgroups) where
    abbrev Alike : Request cgroups → Answer → Type 0
    Alike q a = stands_after (record { request = q; answer = a }) (map told_item l) ≡ map told_item (live_after q a u h l)

    command_alike : {D : Type 0} (c : cgroups.Command) (v : Option ℕ) (e : Attempt D) → Alike (Do c) (command_reply v e)
    command_alike c (Some v) e = refl
    command_alike c None (Refuse x) = refl
    command_alike c None (Accept a d) = refl

  undo_alike : (u : ℕ) (h : History cgroups) (l : Items cgroups) → is_recorded {y = cgroups} Undo (undo_reply l) ≡ true → Alike u h l Undo (undo_reply l)
  undo_alike u h [] has = cc
  undo_alike u h (Ran t k c a ∷ l) has = refl
  undo_alike u h (AtSavepoint t k n ∷ l) has = cc

  -- where the reply is one to be recorded, whatever it depends on
  either : (P : Answer → Type 0) (q : Request cgroups) (b : Bool) (x z : Answer) → is_recorded q (cond b x z) ≡ true → (is_recorded q x ≡ true → P x) → (is_recorded q z ≡ true → P z) → P (cond b x z)
  either P q true x z has f g = f has
  either P q false x z has f g = g has

  -- what stands after the answer to a session in its transaction t that goes on
  abbrev GoesOn : Request cgroups → Type 0
  GoesOn q = (h : History cgroups) (t u : ℕ) → is_recorded q (reply_in cgroups O bound h t q) ≡ true → Alike u h (live t h) q (reply_in cgroups O bound h t q)

  do_alike : (c : cgroups.Command) → GoesOn (Do c)
  do_alike c h t u has =
      either (Alike u h (live t h) (Do c)) (Do c) (is_full bound h) _ _ has (λ k. absurd (true≢false (sym k)))
      (λ _. command_alike u h (live t h) c (holder cgroups O (cgroups.footprint c (tree_of cgroups O h)) h (numbers (without t (opens h)))) (cgroups.effect c (own_tree cgroups O t h)))

  save_alike : (n : Name) → GoesOn (Save n)
  save_alike n h t u has =
      either (Alike u h (live t h) (Save n)) (Save n) (has_savepoint n (live t h)) _ _ has (λ k. absurd (true≢false (sym k)))
      (λ k. either (Alike u h (live t h) (Save n)) (Save n) (is_full bound h) _ _ k (λ i. absurd (true≢false (sym i))) (λ _. refl))

  back_alike : (n : Name) → GoesOn (Back n)
  back_alike n h t u has =
      either (Alike u h (live t h) (Back n)) (Back n) (has_savepoint n (live t h)) _ _ has (λ _. told_below n (live t h)) (λ k. absurd (true≢false (sym k)))

  module _ (r : Record cgroups) (h : History cgroups) (legal : Legal cgroups O bound (r ∷ h)) where
    abbrev After : Request cgroups → Answer → List Item → Type 0
    After q a items = stands_after (record { request = q; answer = a }) items ≡ told_stack (transaction_in r.session (opens_after a r.session r.transaction (opens h))) (r ∷ h)

    -- it has no transaction yet
    begins_one : transaction_in r.session (opens h) ≡ None → After r.request r.answer []
    begins_one none =
        let new = begins_there h r.request r.answer (legal.1 ∙ ap (λ o. reply_at cgroups O bound h o r.request) none) legal.0 in
        let t : ℕ = begins h + 1 in
        let here : cond (r.session == r.session) (Some t) (transaction_in r.session (opens h)) ≡ Some t = ap (λ b. cond b (Some t) (transaction_in r.session (opens h))) (eq-eqb r.session r.session refl) in
        let empty : live t h ≡ [] = fresh h legal.4 t (omega arith) in
        let own : live t (r ∷ h) ≡ [] = (λ i. cond (r.transaction == t) (live_after (new.0 i) r.answer r.transaction h (live t h)) (live t h)) ∙ cond_both (r.transaction == t) (live t h) (live t h) (λ l. l ≡ []) (λ _. empty) (λ _. empty) in
        (λ i. stands_after (record { request = new.0 i; answer = new.1 i }) [])
        ∙ sym (ap (map told_item) own)
        ∙ ap (λ o. told_stack o (r ∷ h)) (sym here)
        ∙ (λ i. told_stack (transaction_in r.session (opens_after (sym new.1 i) r.session r.transaction (opens h))) (r ∷ h))

    -- it has the transaction t
    module _ (t : ℕ) (found : transaction_in r.session (opens h) ≡ Some t) where
      own : r.transaction ≡ t
      own = legal.2 ∙ ap (λ o. named_in o r.answer) found

      replied : r.answer ≡ reply_in cgroups O bound h t r.request
      replied = legal.1 ∙ ap (λ o. reply_at cgroups O bound h o r.request) found

      live_is : live t (r ∷ h) ≡ live_after r.request r.answer r.transaction h (live t h)
      live_is = ap (λ b. cond b (live_after r.request r.answer r.transaction h (live t h)) (live t h)) (eq-eqb r.transaction t own)

      goes_on : (q : Request cgroups) → r.request ≡ q → GoesOn q → opens_after r.answer r.session r.transaction (opens h) ≡ opens h → After r.request r.answer (map told_item (live t h))
      goes_on q e alike stay =
          subst (λ k. is_recorded k r.answer ≡ true → Alike r.transaction h (live t h) k r.answer) (sym e)
          (λ has. subst (Alike r.transaction h (live t h) q) (sym (replied ∙ ap (reply_in cgroups O bound h t) e)) (alike h t r.transaction (ap (is_recorded q) (sym (replied ∙ ap (reply_in cgroups O bound h t) e)) ∙ has))) legal.0
          ∙ sym (ap (map told_item) live_is)
          ∙ ap (λ o. told_stack o (r ∷ h)) (sym (ap (transaction_in r.session) stay ∙ found))

      ends : opens_after r.answer r.session r.transaction (opens h) ≡ without r.transaction (opens h) → stands_after (call_in r) (map told_item (live t h)) ≡ [] → After r.request r.answer (map told_item (live t h))
      ends gone none =
          none ∙ ap (λ o. told_stack o (r ∷ h)) (sym (ap (transaction_in r.session) gone ∙ gone_without r.session r.transaction (opens h) (once_each cgroups O bound h legal.4) (found ∙ ap Some (sym own))))

    -- ---- the answers that neither begin nor end

    abbrev Stays : Answer → Type 0
    Stays a = opens_after a r.session r.transaction (opens h) ≡ opens h

    command_stays : {D : Type 0} (v : Option ℕ) (e : Attempt D) → Stays (command_reply v e)
    command_stays (Some v) e = refl
    command_stays None (Refuse x) = refl
    command_stays None (Accept a d) = refl

    undo_stays : (l : Items cgroups) → Stays (undo_reply l)
    undo_stays [] = refl
    undo_stays (Ran t k c a ∷ l) = refl
    undo_stays (AtSavepoint t k n ∷ l) = refl

    do_stays : (t : ℕ) (c : cgroups.Command) → Stays (reply_in cgroups O bound h t (Do c))
    do_stays t c =
        cond_both (is_full bound h) _ _ Stays (λ _. refl)
        (λ _. command_stays (holder cgroups O (cgroups.footprint c (tree_of cgroups O h)) h (numbers (without t (opens h)))) (cgroups.effect c (own_tree cgroups O t h)))

    save_stays : (t : ℕ) (n : Name) → Stays (reply_in cgroups O bound h t (Save n))
    save_stays t n = cond_both (has_savepoint n (live t h)) _ _ Stays (λ _. refl) (λ _. cond_both (is_full bound h) _ _ Stays (λ _. refl) (λ _. refl))

    back_stays : (t : ℕ) (n : Name) → Stays (reply_in cgroups O bound h t (Back n))
    back_stays t n = cond_both (has_savepoint n (live t h)) _ _ Stays (λ _. refl) (λ _. refl)

    own_record : (o : Option ℕ) → transaction_in r.session (opens h) ≡ o → (q : Request cgroups) → r.request ≡ q → After r.request r.answer (told_stack o h)
    own_record None found q e = begins_one found
    own_record (Some t) found Begin e =
        absurd (true≢false (sym legal.0 ∙ (λ i. is_recorded (e i) ((replied t found ∙ ap (reply_in cgroups O bound h t) e) i))))
    own_record (Some t) found (Do c) e = goes_on t found (Do c) e (do_alike c) (subst Stays (sym (replied t found ∙ ap (reply_in cgroups O bound h t) e)) (do_stays t c))
    own_record (Some t) found (Save n) e = goes_on t found (Save n) e (save_alike n) (subst Stays (sym (replied t found ∙ ap (reply_in cgroups O bound h t) e)) (save_stays t n))
    own_record (Some t) found (Back n) e = goes_on t found (Back n) e (back_alike n) (subst Stays (sym (replied t found ∙ ap (reply_in cgroups O bound h t) e)) (back_stays t n))
    own_record (Some t) found Undo e = goes_on t found Undo e (λ k v u has. undo_alike u k (live v k) has) (subst Stays (sym (replied t found ∙ ap (reply_in cgroups O bound h t) e)) (undo_stays (live t h)))
    own_record (Some t) found Commit e =
        let is : r.answer ≡ Committed (commits h + 1) = replied t found ∙ ap (reply_in cgroups O bound h t) e in
        ends t found (ap (λ a. opens_after a r.session r.transaction (opens h)) is) (λ i. stands_after (record { request = e i; answer = is i }) (map told_item (live t h)))
    own_record (Some t) found Abort e =
        let is : r.answer ≡ Aborted t = replied t found ∙ ap (reply_in cgroups O bound h t) e in
        ends t found (ap (λ a. opens_after a r.session r.transaction (opens h)) is) (λ i. stands_after (record { request = e i; answer = is i }) (map told_item (live t h)))

    own_more : standing (calls_of r.session h) ≡ told_stack (transaction_in r.session (opens h)) h → standing (calls_of r.session (r ∷ h)) ≡ told_stack (transaction_in r.session (opens (r ∷ h))) (r ∷ h)
    own_more before =
        ap (λ b. standing (cond b (calls_of r.session h ++ call_in r ∷ []) (calls_of r.session h))) (eq-eqb r.session r.session refl)
        ∙ standing-more (calls_of r.session h) (call_in r)
        ∙ ap (stands_after (call_in r)) before
        ∙ own_record (transaction_in r.session (opens h)) refl r.request refl

  pub calls_tell : (h : History cgroups) (s : ℕ) → Legal cgroups O bound h → standing (calls_of s h) ≡ told_stack (transaction_in s (opens h)) h
  calls_tell [] s legal = refl
  calls_tell (r ∷ h) s legal = at (s == r.session) refl (λ q. calls_tell h q legal.4)
    where
      at : (b : Bool) → (s == r.session) ≡ b → ((q : ℕ) → standing (calls_of q h) ≡ told_stack (transaction_in q (opens h)) h) → standing (calls_of s (r ∷ h)) ≡ told_stack (transaction_in s (opens (r ∷ h))) (r ∷ h)
      at true e before =
          subst (λ q. standing (calls_of q (r ∷ h)) ≡ told_stack (transaction_in q (opens (r ∷ h))) (r ∷ h)) (sym (eqb-true s r.session e)) (own_more r h legal (before r.session))
      at false e before = another r h legal s e (before s)

  -- ---- where nothing stands

  no_items : (l : Items cgroups) → map told_item l ≡ [] → l ≡ []
  no_items [] e = refl
  no_items (Ran t k c a ∷ l) e = absurd (cc e)
  no_items (AtSavepoint t k n ∷ l) e = absurd (cc e)

  module _ (h : History cgroups) (s t : ℕ) (legal : Legal cgroups O bound h) (found : transaction_in s (opens h) ≡ Some t) (nothing : standing (calls_of s h) ≡ []) where
    empty : live t h ≡ []
    empty = no_items (live t h) (ap (λ o. told_stack o h) (sym found) ∙ sym (calls_tell h s legal) ∙ nothing)

    pub none_undone : reply_at cgroups O bound h (transaction_in s (opens h)) Undo ≡ Refused refusals.NothingToUndo
    none_undone = ap (λ o. reply_at cgroups O bound h o Undo) found ∙ ap undo_reply empty

    pub none_returned : (n : Name) → reply_at cgroups O bound h (transaction_in s (opens h)) (Back n) ≡ Refused refusals.NoSavepoint
    none_returned n =
        ap (λ o. reply_at cgroups O bound h o (Back n)) found
        ∙ ap (λ l. cond (has_savepoint n l) (WentBack (commands_above n 0 l)) (Refused refusals.NoSavepoint)) empty
