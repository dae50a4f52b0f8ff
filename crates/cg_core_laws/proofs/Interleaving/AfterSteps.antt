-- What holds of the machine with a log after any steps: what is kept, what ties it to its history, that the history is legal,
-- and that what was committed runs by itself, through each commit.
use Rattle.std.proofs.Common.{◌≡◌, ℕ, Bool, true, false, List, [], ◌∷◌, ◌++◌, Option, refl, sym, ap, ◌∙◌, subst}
use Rattle.std.proofs.lemmas.Bool.{cond_both}
use Rattle.std.specs.Prelude.{nat_le}
use Rattle.cg_model.specs.System.{System}
use Rattle.cg_model.specs.History.{Request, Answer, Record, History, is_recorded, named_in, IsProperRequest}
use Rattle.cg_model.specs.Opens.{numbers, among, transaction_in, commits}
use Rattle.cg_model.specs.Live.{committed}
use Rattle.cg_model.specs.Run.{Accepted, committed_through, Defined}
use Rattle.cg_model.specs.Reply.{reply, Legal}
use Rattle.cg_core_laws.specs.Serial.{AreProper}
use Rattle.cg_core_laws.proofs.Interleaving.SystemLaws.{SystemLaws}
use Rattle.cg_core_laws.proofs.Interleaving.RunsOfStackEntries.{only}
use Rattle.cg_core_laws.proofs.Interleaving.LogMachine.{Log, log_opened, log_step_at, log_noted, log_step, log_steps}
use Rattle.cg_core_laws.proofs.Interleaving.LogInvariant.{Kept}
use Rattle.cg_core_laws.proofs.Interleaving.LogInvariantKept.{step_kept, start_kept}
use Rattle.cg_core_laws.proofs.Interleaving.LogIsSerial.{done_runs, own_runs}
use Rattle.cg_core_laws.proofs.Interleaving.UnchangedBySteps.{SameHistory, same_history_at}
use Rattle.cg_core_laws.proofs.Interleaving.HistoryTie.{Tied, ran}
use Rattle.cg_core_laws.proofs.Interleaving.AnswersAreReplies.{own_as_items, answer_at}
use Rattle.cg_core_laws.proofs.Interleaving.HistoryTieKept.{step_tied, start_tied}

pub record Invariant (y : System) (o : y.State) (c : Log y) : Type 0 where
  pub kept : Kept y o c
  pub tied : Tied y o c
  pub legal : Legal y o c.bound c.history
  pub through : (n : ℕ) → Accepted y o (committed_through n c.history)

module _ (y : System) (laws : SystemLaws y) (o : y.State) where
  -- the runs of the history are defined
  pub defined : (c : Log y) → Kept y o c → Tied y o c → Defined y o c.history
  defined c k d = record {
    tree = subst (Accepted y o) d.stands (ran y o c.log k.runs).1;
    own = λ t m.
        let n : among t (numbers c.opens) ≡ true = ap (λ ps. among t (numbers ps)) d.opens ∙ m in
        subst (Accepted y o) (own_as_items y laws o c t d) (ran y o (only t c.log ++ c.done) (own_runs y laws o c t k n)).1;
  }

  -- one more record, or none
  legal_noted : (c : Log y) (s : ℕ) (r : Request y) (h : Option ℕ) (p : Log y × Answer) (b : Bool) → is_recorded r p.1 ≡ b → p.1 ≡ reply y o c.bound c.history s r → (named_in h p.1 ≡ named_in (transaction_in s c.opens) p.1) → SameHistory y c p.0 → Tied y o c → Defined y o (log_noted b s r h p).0.history → Legal y o c.bound c.history → Legal y o (log_noted b s r h p).0.bound (log_noted b s r h p).0.history
  legal_noted c s r h p true e w v i d runs legal =
      let new : Record y = record { session = s; transaction = named_in h p.1; request = r; answer = p.1 } in
      let known = subst (λ (g : History y). Defined y o (new ∷ g)) i.0 runs in
      let all : Legal y o c.bound (new ∷ c.history) = (e, w, v ∙ ap (λ ps. named_in (transaction_in s ps) p.1) d.opens, known, legal) in
      subst (λ g. Legal y o p.0.bound (new ∷ g)) (sym i.0) (subst (λ n. Legal y o n (new ∷ c.history)) (sym i.1) all)
  legal_noted c s r h p false e w v i d runs legal = rw (i.0, i.1) legal

  through_noted : (c : Log y) (s : ℕ) (r : Request y) (h : Option ℕ) (p : Log y × Answer) (b : Bool) → p.0.history ≡ c.history → Accepted y o (committed (log_noted b s r h p).0.history) → ((n : ℕ) → Accepted y o (committed_through n c.history)) → (n : ℕ) → Accepted y o (committed_through n (log_noted b s r h p).0.history)
  through_noted c s r h p true e now before n =
      let new : Record y = record { session = s; transaction = named_in h p.1; request = r; answer = p.1 } in
      cond_both (nat_le (commits (new ∷ p.0.history)) n) _ _ (Accepted y o) (λ _. now) (λ _. subst (λ g. Accepted y o (committed_through n g)) (sym e) (before n))
  through_noted c s r h p false e now before n = subst (λ g. Accepted y o (committed_through n g)) (sym e) (before n)

  step_holds : (c : Log y) (s : ℕ) (r : Request y) → IsProperRequest r → Invariant y o c → Invariant y o (log_step y c s r).0
  step_holds c s r proper i =
      let h = transaction_in s c.opens in
      let p = log_step_at y c s r h in
      let c' = (log_step y c s r).0 in
      let u = same_history_at y c s r h in
      let k = step_kept y laws o c s r proper i.kept in
      let d = step_tied y laws o c s r i.kept i.tied in
      let done : Accepted y o (committed c'.history) = subst (Accepted y o) d.done (ran y o c'.done (done_runs y laws o c' k)).1 in
      record {
        kept = k;
        tied = d;
        legal = legal_noted c s r h p (is_recorded r p.1) refl (answer_at y laws o c s r i.kept i.tied) refl u i.tied (defined c' k d) i.legal;
        through = through_noted c s r h p (is_recorded r p.1) u.0 done i.through;
      }

  steps_hold : (ps : List (ℕ × Request y)) (c : Log y) → AreProper ps → Invariant y o c → Invariant y o (log_steps y c ps)
  steps_hold [] c proper i = i
  steps_hold (p ∷ ps) c proper i = steps_hold ps (log_step y c p.0 p.1).0 proper.1 (step_holds c p.0 p.1 proper.0 i)

  pub invariant : (bound : ℕ) (ps : List (ℕ × Request y)) → AreProper ps → Invariant y o (log_steps y (log_opened y o bound) ps)
  invariant bound ps proper =
      steps_hold ps (log_opened y o bound) proper (record { kept = start_kept y laws o bound; tied = start_tied y laws o bound; legal = tt; through = λ n. tt })
