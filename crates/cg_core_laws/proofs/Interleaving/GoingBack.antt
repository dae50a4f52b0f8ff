-- What follows where the machine is faithful to its history: going back succeeds exactly, other transactions stay, and so do
-- the trees of the commits.
use Rattle.std.proofs.Common.{◌≡◌, ℕ, ◌+◌, ◌≤◌, Bool, true, false, cond, [], ◌∷◌, drop, ◌==◌, Option, Some, None, refl, sym, ap, ◌∙◌, subst, arith}
use Rattle.std.specs.Prelude.{nat_le}
use Rattle.std.proofs.lemmas.Bool.{eqb-true, eq-eqb}
use Rattle.std.proofs.lemmas.Bool.Decides.{nat_tests}
use Rattle.cg_name.specs.Name.{Name}
use Rattle.cg_name.specs.declared.refusal.Refusal.TheVariants.{NoSavepoint}
use Rattle.cg_model.specs.System.{System, Outcome, Done}
use Rattle.cg_model.specs.History.{Request, Begin, Do, Save, Back, Undo, Commit, Abort, Answer, Begun, Gave, Saved, WentBack, Committed, Aborted, Refused, Record, History, is_recorded, named_in}
use Rattle.cg_model.specs.Opens.{transaction_in, opens, commits_after, commits}
use Rattle.cg_model.specs.Live.{Ran, Items, below, live_after, live, committed_after, committed}
use Rattle.cg_model.specs.Run.{committed_through}
use Rattle.cg_model.specs.Reply.{has_savepoint, commands_above, undo_reply, reply_in, reply_out, reply_at}
use Rattle.cg_model.specs.Machine.{Machine, step}
use Rattle.cg_core_laws.specs.Serial.{IsFaithful, GoesBack, OthersStay, CommitsStay}

module _ (y : System) (o : y.State) (m : Machine y) (faithful : IsFaithful y o m) where
  -- the answer in t, and t's stack after it
  in_step : (s t : ℕ) (r : Request y) (a : Answer) → transaction_in s (opens m.history) ≡ Some t → reply_in y o m.bound m.history t r ≡ a → is_recorded r a ≡ true → ((step y m s r).1 ≡ a) × (live t (step y m s r).0.history ≡ live_after r a t m.history (live t m.history))
  in_step s t r a e w k =
      let h = m.history in
      let answer : (step y m s r).1 ≡ a = faithful.replies s r ∙ ap (λ x. reply_at y o m.bound h x r) e ∙ w in
      let grown = faithful.recorded s r (ap (λ (x : Answer). is_recorded r x) answer ∙ k) in
      let named : named_in (transaction_in s (opens h)) (step y m s r).1 ≡ t = ap (λ x. named_in x (step y m s r).1) e in
      let same : live t (step y m s r).0.history ≡ live t (record { session = s; transaction = t; request = r; answer = a } ∷ h) =
      ap (λ (g : History y). live t g) grown ∙ (λ i. live t (record { session = s; transaction = named i; request = r; answer = answer i } ∷ h)) in
      let at : (t == t) ≡ true = eq-eqb t t refl in
      (answer, same ∙ (rw at))

  undone : (s t : ℕ) (h : History y) (c : y.Command) (a : Outcome) (l : Items y) → transaction_in s (opens m.history) ≡ Some t → live t m.history ≡ Ran t h c a ∷ l → ((step y m s Undo).1 ≡ Gave Done) × (live t (step y m s Undo).0.history ≡ l)
  undone s t h c a l e k =
      let p = in_step s t Undo (Gave Done) e (ap undo_reply k) refl in
      (p.0, p.1 ∙ ap (drop 1) k)

  went_back : (s t : ℕ) (n : Name) → transaction_in s (opens m.history) ≡ Some t → has_savepoint n (live t m.history) ≡ true → ((step y m s (Back n)).1 ≡ WentBack (commands_above n 0 (live t m.history))) × (live t (step y m s (Back n)).0.history ≡ below n (live t m.history))
  went_back s t n e k =
      in_step s t (Back n) (WentBack (commands_above n 0 (live t m.history))) e (ap (λ b. cond b (WentBack (commands_above n 0 (live t m.history))) (Refused NoSavepoint)) k) refl

  pub goes_back : (s t : ℕ) → transaction_in s (opens m.history) ≡ Some t → GoesBack y m s t
  goes_back s t e = record {
    undo = λ h c a l k. undone s t h c a l e k;
    back = λ n k. went_back s t n e k;
    abort = in_step s t Abort (Aborted t) e refl refl;
    commit = in_step s t Commit (Committed (commits m.history + 1)) e refl refl;
  }

  -- what a step makes of the history
  by_history : (P : History y → Type 0) (s : ℕ) (r : Request y) (b : Bool) → is_recorded r (step y m s r).1 ≡ b → P m.history → (b ≡ true → P (record { session = s; transaction = named_in (transaction_in s (opens m.history)) (step y m s r).1; request = r; answer = (step y m s r).1 } ∷ m.history)) → P (step y m s r).0.history
  by_history P s r true k same grown = subst P (sym (faithful.recorded s r k)) (grown refl)
  by_history P s r false k same grown = subst (λ (n : Machine y). P n.history) (sym (faithful.unrecorded s r k)) same

  -- a record of another transaction leaves a stack
  other_live : (r : Record y) (u : ℕ) (b : Bool) → (r.transaction == u) ≡ b → (b ≡ true → live_after r.request r.answer r.transaction m.history (live u m.history) ≡ live u m.history) → live u (r ∷ m.history) ≡ live u m.history
  other_live r u true k same = rw k (same refl)
  other_live r u false k same = rw k

  -- without a transaction only Begin is recorded
  out_live : (r : Request y) (a : Answer) (t : ℕ) (l : Items y) → a ≡ reply_out y m.bound m.history r → is_recorded r a ≡ true → live_after r a t m.history l ≡ l
  out_live Begin a t l e k = refl
  out_live (Do c) a t l e k = let n = ap (λ (x : Answer). is_recorded {y = y} (Do c) x) e in absurd (cc (n, k))
  out_live (Save j) a t l e k = let n = ap (λ (x : Answer). is_recorded {y = y} (Save j) x) e in absurd (cc (n, k))
  out_live (Back j) a t l e k = let n = ap (λ (x : Answer). is_recorded {y = y} (Back j) x) e in absurd (cc (n, k))
  out_live Undo a t l e k = let n = ap (λ (x : Answer). is_recorded {y = y} Undo x) e in absurd (cc (n, k))
  out_live Commit a t l e k = let n = ap (λ (x : Answer). is_recorded {y = y} Commit x) e in absurd (cc (n, k))
  out_live Abort a t l e k = let n = ap (λ (x : Answer). is_recorded {y = y} Abort x) e in absurd (cc (n, k))

  record_stays : (s : ℕ) (r : Request y) (u : ℕ) (a : Answer) (found : Option ℕ) → a ≡ reply_at y o m.bound m.history found r → is_recorded r a ≡ true → ¬ (found ≡ Some u) → live u (record { session = s; transaction = named_in found a; request = r; answer = a } ∷ m.history) ≡ live u m.history
  record_stays s r u a (Some t) e k n = other_live (record { session = s; transaction = t; request = r; answer = a }) u (t == u) refl (λ z. absurd (n (ap Some (eqb-true t u z))))
  record_stays s r u a None e k n =
      let t = named_in None a in
      other_live (record { session = s; transaction = t; request = r; answer = a }) u (t == u) refl (λ z. out_live r a t (live u m.history) e k)

  pub others_stay : OthersStay y m
  others_stay s r u n =
      let a = (step y m s r).1 in
      let b = is_recorded r a in
      by_history (λ h. live u h ≡ live u m.history) s r b refl refl (λ k. record_stays s r u a (transaction_in s (opens m.history)) (faithful.replies s r) k n)

  -- all commits are within n
  through_all : (n : ℕ) (h : History y) → nat_le (commits h) n ≡ true → committed_through n h ≡ committed h
  through_all n [] e = refl
  through_all n (r ∷ h) e = rw e

  through_same : (n : ℕ) (b : Bool) → nat_le (commits m.history) n ≡ b → cond b (committed m.history) (committed_through n m.history) ≡ committed_through n m.history
  through_same n true k = sym (through_all n m.history k)
  through_same n false k = refl

  -- with the number and the scripts that an answer makes of them
  through_after : (n : ℕ) (a : Answer) (l : Items y) → n ≤ commits m.history → cond (nat_le (commits_after a (commits m.history)) n) (committed_after a l (committed m.history)) (committed_through n m.history) ≡ committed_through n m.history
  through_after n (Committed j) l le =
      let no : nat_le (commits m.history + 1) n ≡ false = grind (arith, nat_tests) in rw no
  through_after n (Begun j) l le = through_same n (nat_le (commits m.history) n) refl
  through_after n (Gave a) l le = through_same n (nat_le (commits m.history) n) refl
  through_after n Saved l le = through_same n (nat_le (commits m.history) n) refl
  through_after n (WentBack j) l le = through_same n (nat_le (commits m.history) n) refl
  through_after n (Aborted j) l le = through_same n (nat_le (commits m.history) n) refl
  through_after n (Refused x) l le = through_same n (nat_le (commits m.history) n) refl

  pub commits_stay : CommitsStay y m
  commits_stay s r n le =
      let a = (step y m s r).1 in
      let t = named_in (transaction_in s (opens m.history)) a in
      by_history (λ h. committed_through n h ≡ committed_through n m.history) s r (is_recorded r a) refl refl (λ k. through_after n a (live t m.history) le)
