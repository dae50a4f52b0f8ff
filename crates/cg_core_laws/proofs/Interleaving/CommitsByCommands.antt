-- Each record is a command of one committed script at most, and the commits' trees go on by their commands.
use Rattle.std.proofs.Common.{◌≡◌, ℕ, suc, ◌+◌, ◌-◌, ◌<◌, ◌≤◌, ◌==◌, ◌||◌, ◌&&◌, not, Bool, true, false, cond, List, [], ◌∷◌, ◌++◌, length, map, drop, Option, Some, None, refl, sym, ap, ◌∙◌, subst, arith, true≢false}
use Rattle.std.proofs.lemmas.Bool.{eqb-true, eq-eqb, false_from_ne_true}
use Rattle.std.specs.List.{AllByRecursion}
use Rattle.cg_name.specs.declared.refusal.Refusal.TheVariants.{Full}
use Rattle.cg_model.specs.System.{System, Outcome, Accept}
use Rattle.cg_model.specs.History.{Request, Begin, Do, Save, Back, Undo, Commit, Abort, Answer, Begun, Gave, Saved, WentBack, Committed, Aborted, Refused, Record, History, named_in}
use Rattle.cg_model.specs.Opens.{Opens, numbers, among, without, transaction_in, opens_after, opens, begins_after, begins, commits}
use Rattle.cg_model.specs.Live.{Ran, AtSavepoint, Items, live, scripts_after, scripts, one_by_one}
use Rattle.cg_model.specs.Run.{state_after, run_items, Accepted, committed_through}
use Rattle.cg_model.specs.Reply.{is_full, reply_at, Legal}
use Rattle.cg_core_laws.specs.CommittedCommands.{places, commands_of, numbered, number_of, committed_places, script, script_places, commit_of, after_commands, AreAccepted, AreCommits}
use Rattle.cg_core_laws.proofs.Interleaving.CommittedPlaces.{numbered_all, transaction_at, Told, told_more, told_live, told_transaction, places_of}
use Rattle.cg_core_laws.proofs.Interleaving.CommittedScripts.{are_scripts}
use Rattle.cg_core_laws.proofs.Interleaving.OneTransactionEach.{begun_alone}
use Rattle.cg_core_laws.proofs.Interleaving.OpenTransactions.{among_without, transaction_open}

all_among : (P : ℕ → Type 0) (n : ℕ) (ns : List ℕ) → AllByRecursion P ns → among n ns ≡ true → P n
all_among P n [] a e = absurd (true≢false (sym e))
all_among P n (m ∷ ns) a e = at (n == m) refl e (all_among P n ns a.1)
  where
    at : (b : Bool) → (n == m) ≡ b → (b || among n ns) ≡ true → (among n ns ≡ true → P n) → P n
    at true k e rest = subst P (sym (eqb-true n m k)) a.0
    at false k e rest = rest e

-- one more list, that has nothing of the k-th
one_more : (n k : ℕ) (l : List ℕ) (ls : List (List ℕ)) → (among n l ≡ true → among n (numbered k ls) ≡ true → ⊥) → (among n (numbered k ls) ≡ true → number_of n ls ≡ k) → among n (numbered k (l ∷ ls)) ≡ true → number_of n (l ∷ ls) ≡ k
one_more n k l ls apart rest = at (suc (length ls) == k) (among n l) refl refl
  where
    at : (b c : Bool) → (suc (length ls) == k) ≡ b → among n l ≡ c → among n (cond b l (numbered k ls)) ≡ true → cond c (suc (length ls)) (number_of n ls) ≡ k
    at true true is has e = eqb-true (suc (length ls)) k is
    at true false is has e = absurd (true≢false (sym e ∙ has))
    at false true is has e = absurd (apart has e)
    at false false is has e = rest e

module _ (y : System) (o : y.State) (bound : ℕ) where
  -- ---- which transactions are open, by a legal history

  -- the next one begins with the next number
  pub begun_next : (h : History y) (r : Request y) (u : ℕ) (found : Option ℕ) → reply_at y o bound h found r ≡ Begun u → u ≡ begins h + 1
  begun_next h r u (Some t) e = absurd (cc (begun_alone y o bound h r u (Some t) e))
  begun_next h Begin u None e = at (is_full bound h) e
    where
      at : (b : Bool) → cond b (Refused Full) (Begun (begins h + 1)) ≡ Begun u → u ≡ begins h + 1
      at true e = absurd (cc e)
      at false e = cc e
  begun_next h (Do c) u None e = absurd (cc e)
  begun_next h (Save n) u None e = absurd (cc e)
  begun_next h (Back n) u None e = absurd (cc e)
  begun_next h Undo u None e = absurd (cc e)
  begun_next h Commit u None e = absurd (cc e)
  begun_next h Abort u None e = absurd (cc e)

  -- none commits that isn't open
  committed_open : (h : History y) (r : Request y) (k : ℕ) (found : Option ℕ) → reply_at y o bound h found r ≡ Committed k → (t : ℕ) × (found ≡ Some t)
  committed_open h r k (Some t) e = (t, refl)
  committed_open h Begin k None e = at (is_full bound h) e
    where
      at : (b : Bool) → cond b (Refused Full) (Begun (begins h + 1)) ≡ Committed k → (t : ℕ) × (None ≡ Some t)
      at true e = absurd (cc e)
      at false e = absurd (cc e)
  committed_open h (Do c) k None e = absurd (cc e)
  committed_open h (Save n) k None e = absurd (cc e)
  committed_open h (Back n) k None e = absurd (cc e)
  committed_open h Undo k None e = absurd (cc e)
  committed_open h Commit k None e = absurd (cc e)
  committed_open h Abort k None e = absurd (cc e)

  pub begins_more : (a : Answer) (n : ℕ) → n ≤ begins_after a n
  begins_more (Begun u) n = omega arith
  begins_more _ n = omega arith

  still : (t u : ℕ) (ps : Opens) → among u (numbers (without t ps)) ≡ true → among u (numbers ps) ≡ true
  still t u ps e = at (not (u == t)) (sym (among_without t u ps) ∙ e)
    where
      at : (b : Bool) → (b && among u (numbers ps)) ≡ true → among u (numbers ps) ≡ true
      at true e = e
      at false e = absurd (true≢false (sym e))

  -- what is open after one more answer was open, or is the one that was begun
  open_before : (a : Answer) (s t u : ℕ) (ps : Opens) → ((v : ℕ) → a ≡ Begun v → (u ≡ v → ⊥)) → among u (numbers (opens_after a s t ps)) ≡ true → among u (numbers ps) ≡ true
  open_before (Begun v) s t u ps other e = at (u == v) refl e
    where
      at : (b : Bool) → (u == v) ≡ b → (b || among u (numbers ps)) ≡ true → among u (numbers ps) ≡ true
      at true k e = absurd (other v refl (eqb-true u v k))
      at false k e = e
  open_before (Committed k) s t u ps other e = still t u ps e
  open_before (Aborted v) s t u ps other e = still t u ps e
  open_before (Gave a) s t u ps other e = e
  open_before Saved s t u ps other e = e
  open_before (WentBack k) s t u ps other e = e
  open_before (Refused r) s t u ps other e = e

  -- an open transaction was begun
  pub open_begun : (h : History y) → Legal y o bound h → (u : ℕ) → among u (numbers (opens h)) ≡ true → u ≤ begins h
  open_begun [] legal u e = absurd (true≢false (sym e))
  open_begun (r ∷ h) (recorded, answered, named, defined, legal) u e =
      at r.answer refl e (open_begun h legal u)
    where
      at : (a : Answer) → r.answer ≡ a → among u (numbers (opens_after a r.session r.transaction (opens h))) ≡ true → (among u (numbers (opens h)) ≡ true → u ≤ begins h) → u ≤ begins_after a (begins h)
      at (Begun v) i e rest =
          let next : v ≡ begins h + 1 = begun_next h r.request v (transaction_in r.session (opens h)) (sym answered ∙ i) in
          elim (u == v) as (λ b. (u == v) ≡ b → (b || among u (numbers (opens h))) ≡ true → u ≤ begins h + 1) [
            | true ↦ λ k f. let is : u ≡ v = eqb-true u v k in omega (arith, is, next)
            | false ↦ λ k f. let was : u ≤ begins h = rest f in omega (arith, was)
          ] refl e
      at (Committed k) i e rest = rest (still r.transaction u (opens h) e)
      at (Aborted v) i e rest = rest (still r.transaction u (opens h) e)
      at (Gave a) i e rest = rest e
      at Saved i e rest = rest e
      at (WentBack k) i e rest = rest e
      at (Refused f) i e rest = rest e

  -- these are items of a transaction that isn't open, nor will be
  abbrev Closed : History y → Items y → Type 0
  Closed h l = (t : ℕ) × (among t (numbers (opens h)) ≡ false) × (t ≤ begins h) × Told y t h l

  closed_more : (r : Record y) (h : History y) → Legal y o bound (r ∷ h) → (l : Items y) → Closed h l → Closed (r ∷ h) l
  closed_more r h (recorded, answered, named, defined, legal) l (t, shut, low, told) =
      let other : (v : ℕ) → r.answer ≡ Begun v → t ≡ v → ⊥ = λ v i is.
      let next : v ≡ begins h + 1 = begun_next h r.request v (transaction_in r.session (opens h)) (sym answered ∙ i) in omega (arith, is, next, low)
      in
      let more : begins h ≤ begins (r ∷ h) = begins_more r.answer (begins h) in (
        t,
        false_from_ne_true (among t (numbers (opens (r ∷ h)))) (λ e. true≢false (sym (open_before r.answer r.session r.transaction t (opens h) other e) ∙ shut)),
        omega (arith, low, more),
        told_more y t r h l told,
      )

  all_closed_more : (r : Record y) (h : History y) → Legal y o bound (r ∷ h) → (ls : List (Items y)) → AllByRecursion (Closed h) ls → AllByRecursion (Closed (r ∷ h)) ls
  all_closed_more r h legal [] k = tt
  all_closed_more r h legal (l ∷ ls) k = (closed_more r h legal l k.0, all_closed_more r h legal ls k.1)

  -- the transaction that commits was open
  was_open : (r : Record y) (h : History y) → Legal y o bound (r ∷ h) → (k : ℕ) → r.answer ≡ Committed k → among r.transaction (numbers (opens h)) ≡ true
  was_open r h (recorded, answered, named, defined, legal) k i =
      let there = committed_open h r.request k (transaction_in r.session (opens h)) (sym answered ∙ i) in
      let is : r.transaction ≡ there.0 = named ∙ ap (λ f. named_in f r.answer) there.1 in
      ap (λ t. among t (numbers (opens h))) is ∙ transaction_open r.session there.0 (opens h) there.1

  closed_scripts : (h : History y) → Legal y o bound h → AllByRecursion (Closed h) (scripts h)
  closed_scripts [] legal = tt
  closed_scripts (r ∷ h) legal = at r.answer refl (all_closed_more r h legal (scripts h) (closed_scripts h legal.4))
    where
      at : (a : Answer) → r.answer ≡ a → AllByRecursion (Closed (r ∷ h)) (scripts h) → AllByRecursion (Closed (r ∷ h)) (scripts_after a (live r.transaction h) (scripts h))
      at (Committed k) i rest =
          let t : ℕ = r.transaction in
          let begun : t ≤ begins h = open_begun h legal.4 t (was_open r h legal k i) in
          let more : begins h ≤ begins (r ∷ h) = begins_more r.answer (begins h) in
          let same : (t == t) ≡ true = eq-eqb t t refl in
          let gone : among t (numbers (opens (r ∷ h))) ≡ false = ap (λ a. among t (numbers (opens_after a r.session t (opens h)))) i ∙ among_without t t (opens h) ∙ ap (λ b. not b && among t (numbers (opens h))) same in
          ((t, gone, omega (arith, begun, more), told_more y t r h (live t h) (told_live y t h)), rest)
      at (Begun u) i rest = rest
      at (Aborted u) i rest = rest
      at (Gave a) i rest = rest
      at Saved i rest = rest
      at (WentBack k) i rest = rest
      at (Refused f) i rest = rest

  -- none of these items has its record there
  abbrev Without : ℕ → Items y → Type 0
  Without n l = among n (places l) ≡ true → ⊥

  -- the index of a record of an open transaction is in no script
  apart : (h : History y) → Legal y o bound h → (t : ℕ) → among t (numbers (opens h)) ≡ true → (n k : ℕ) → among n (places (live t h)) ≡ true → among n (script_places k h) ≡ true → ⊥
  apart h legal t is_open n k mine theirs = numbered_all (Without n) (λ e. true≢false (sym e)) k (scripts h) (each (scripts h) (closed_scripts h legal)) (ap (among n) (sym (places_of y k h)) ∙ theirs)
    where
      one : (l : Items y) → Closed h l → Without n l
      one l (u, shut, low, told) has =
          let own : transaction_at y h n ≡ Some t = all_among (λ m. transaction_at y h m ≡ Some t) n (places (live t h)) (told_transaction y t h (live t h) (told_live y t h)) mine in
          let other : transaction_at y h n ≡ Some u = all_among (λ m. transaction_at y h m ≡ Some u) n (places l) (told_transaction y u h l told) has in
          let same : t ≡ u = cc (sym own ∙ other) in
          true≢false (sym is_open ∙ ap (λ v. among v (numbers (opens h))) same ∙ shut)

      each : (ls : List (Items y)) → AllByRecursion (Closed h) ls → AllByRecursion (Without n) ls
      each [] c = tt
      each (l ∷ ls) c = (one l c.0, each ls c.1)

  pub of_script : (h : History y) → Legal y o bound h → (k n : ℕ) → among n (script_places k h) ≡ true → commit_of n h ≡ k
  of_script [] legal k n e = absurd (true≢false (sym e))
  of_script (r ∷ h) legal k n e = at r.answer refl e (of_script h legal.4 k n)
    where
      at : (a : Answer) → r.answer ≡ a → among n (numbered k (map places (scripts_after a (live r.transaction h) (scripts h)))) ≡ true
          → (among n (script_places k h) ≡ true → commit_of n h ≡ k) → number_of n (map places (scripts_after a (live r.transaction h) (scripts h))) ≡ k
      at (Committed j) i e rest = one_more n k (places (live r.transaction h)) (committed_places h) (apart h legal.4 r.transaction (was_open r h legal j i) n k) rest e
      at (Begun u) i e rest = rest e
      at (Aborted u) i e rest = rest e
      at (Gave a) i e rest = rest e
      at Saved i e rest = rest e
      at (WentBack j) i e rest = rest e
      at (Refused f) i e rest = rest e

-- ---- the trees of the commits

-- from the k-th script on there is one more than from the next
numbered_first : {A : Type 0} (k : ℕ) (ls : List (List A)) → k < length ls → drop (length ls - (k + 1)) ls ≡ numbered (k + 1) ls ∷ drop (length ls - k) ls
numbered_first k [] lt = absurd (omega (arith, lt))
numbered_first k (l ∷ ls) lt = at (suc (length ls) == k + 1) refl (numbered_first k ls)
  where
    at : (b : Bool) → (suc (length ls) == k + 1) ≡ b → (k < length ls → drop (length ls - (k + 1)) ls ≡ numbered (k + 1) ls ∷ drop (length ls - k) ls)
        → drop (suc (length ls) - (k + 1)) (l ∷ ls) ≡ cond b l (numbered (k + 1) ls) ∷ drop (suc (length ls) - k) (l ∷ ls)
    at true e rest =
        let is : suc (length ls) ≡ k + 1 = eqb-true (suc (length ls)) (k + 1) e in
        let none : suc (length ls) - (k + 1) ≡ 0 = omega (arith, is) in
        let one : suc (length ls) - k ≡ 1 = omega (arith, is) in
        ap (λ n. drop n (l ∷ ls)) none ∙ sym (ap (λ n. l ∷ drop n (l ∷ ls)) one)
    at false e rest =
        let isnt : suc (length ls) ≡ k + 1 → ⊥ = λ is. true≢false (sym (eq-eqb (suc (length ls)) (k + 1) is) ∙ e) in
        let lower : k < length ls = omega (arith, lt, isnt) in
        let next : suc (length ls) - (k + 1) ≡ suc (length ls - (k + 1)) = omega (arith, lower) in
        let this : suc (length ls) - k ≡ suc (length ls - k) = omega (arith, lower) in
        ap (λ n. drop n (l ∷ ls)) next ∙ rest lower ∙ sym (ap (λ n. numbered (k + 1) ls ∷ drop n (l ∷ ls)) this)

module _ (y : System) (o : y.State) where
  after_last : (s : y.State) (cs : List y.Command) (c : y.Command) → after_commands y s (cs ++ c ∷ []) ≡ state_after y (y.effect c (after_commands y s cs)) (after_commands y s cs)
  after_last s [] c = refl
  after_last s (b ∷ cs) c = after_last (state_after y (y.effect b s) s) cs c

  accepted_last : (s : y.State) (cs : List y.Command) (c : y.Command) (a : Outcome) (d : y.Change) → AreAccepted y s cs → y.effect c (after_commands y s cs) ≡ Accept a d → AreAccepted y s (cs ++ c ∷ [])
  accepted_last s [] c a d are e = ((a, d, e), tt)
  accepted_last s (b ∷ cs) c a d are e = (are.0, accepted_last (state_after y (y.effect b s) s) cs c a d are.1 e)

  -- items run as their commands do
  run_is : (l m : Items y) → run_items y o (l ++ m) ≡ after_commands y (run_items y o m) (commands_of l)
  run_is [] m = refl
  run_is (Ran t h c a ∷ l) m = ap (λ s. state_after y (y.effect c s) s) (run_is l m) ∙ sym (after_last (run_items y o m) (commands_of l) c)
  run_is (AtSavepoint t h n ∷ l) m = run_is l m

  accepted_are : (l m : Items y) → Accepted y o (l ++ m) → AreAccepted y (run_items y o m) (commands_of l)
  accepted_are [] m k = tt
  accepted_are (Ran t h c a ∷ l) m k =
      accepted_last (run_items y o m) (commands_of l) c a k.0.0 (accepted_are l m k.1) (ap (y.effect c) (sym (run_is l m)) ∙ k.0.1)
  accepted_are (AtSavepoint t h n ∷ l) m k = accepted_are l m k

  -- what was committed through one more commit begins with its script
  through_next : (h : History y) (k : ℕ) → k < commits h → committed_through (k + 1) h ≡ script (k + 1) h ++ committed_through k h
  through_next h k lt =
      let all = are_scripts y h in
      let count : length (scripts h) ≡ commits h = all.count in
      sym (all.first (k + 1))
      ∙ ap (λ n. one_by_one (drop (n - (k + 1)) (scripts h))) (sym count)
      ∙ ap one_by_one (numbered_first k (scripts h) (omega (arith, count, lt)))
      ∙ ap (λ n. script (k + 1) h ++ one_by_one (drop (n - k) (scripts h))) count
      ∙ ap (λ l. script (k + 1) h ++ l) (all.first k)

  through_none : (h : History y) → committed_through 0 h ≡ []
  through_none h =
      let all = are_scripts y h in
      let count : commits h - 0 ≡ length (scripts h) = let is : length (scripts h) ≡ commits h = all.count in omega (arith, is) in
      sym (all.first 0) ∙ ap (λ n. one_by_one (drop n (scripts h))) count ∙ ap one_by_one (all_gone (scripts h))
    where
      all_gone : {A : Type 0} (ls : List A) → drop (length ls) ls ≡ []
      all_gone [] = refl
      all_gone (l ∷ ls) = all_gone ls

  pub are_commits : (bound : ℕ) (h : History y) → Legal y o bound h → ((n : ℕ) → Accepted y o (committed_through n h)) → AreCommits y o h
  are_commits bound h legal accepted = record {
    of_script = of_script y o bound h legal;
    opening = ap (run_items y o) (through_none h);
    next = λ k lt. ap (run_items y o) (through_next h k lt) ∙ run_is (script (k + 1) h) (committed_through k h);
    accepted = λ k lt. accepted_are (script (k + 1) h) (committed_through k h) (subst (Accepted y o) (through_next h k lt) (accepted (k + 1)));
  }
